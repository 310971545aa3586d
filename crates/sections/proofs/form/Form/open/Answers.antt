-- There is no byte, or the first is no marks.
use Rattle.std.proofs.Common.{◌∙◌, sym, drop, arith, rules}
use Rattle.sheet.specs.Limits.{most_marks}
use Rattle.sheet.proofs.Limits.{marks_most}
use Rattle.sections.specs.Parts.{empty, others}
use Rattle.sections.proofs.form.Form.open.Goals as goal

pub returns-in_default : goal.returns-in_default
returns-in_default c = empty (omega arith)

pub returns-then-not-marks_ok : goal.returns-then-not-marks_ok
returns-then-not-marks_ok c = others c.from-marks.result (drop 1 c.args.bytes.now) (search rules) (sym c.marks_ok.ensures ∙ c.if-not-marks_ok.true)

pub invariant_of-result : goal.invariant_of-result
invariant_of-result c = record { few = marks_most most_marks c.from-marks.result (sym c.marks_ok.ensures ∙ c.if-not-marks_ok.false) }
