-- As line 1 names the year, or does not.
use mathlib.Core.Path.{ap, ◌∙◌}
use native.Mathlib.Omega.{arith}
use Rattle.ground.proofs.Areas.{wrote_text}
use Rattle.machine.specs.Machine.{refusal}
use Rattle.desk.proofs.Steps.{refusal_short}
use Rattle.year.specs.Parts.{beginning}
use Rattle.year.proofs.Steps.{line_named, line_nameless}
use Rattle.year.proofs.stages.Year.year_line.Goals as goal

pub returns-in-Some : goal.returns-in-Some
returns-in-Some c = line_named c.year_of.ensures c.in-Some.is

pub returns-in-None : goal.returns-in-None
returns-in-None c =
    let k = c.args.line.now.number in
    let laid = wrote_text (ap (refusal k) c.number.ensures) c.refusal.ensures in
    line_nameless c.year_of.ensures c.in-None.is laid (refusal_short k 10 (λ z. omega arith) laid (omega arith) (omega arith)) (c.new.ensures ∙ ap (beginning 0) c.opened.ensures)
