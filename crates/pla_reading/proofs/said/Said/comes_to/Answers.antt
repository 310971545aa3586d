-- A law for each way out.
use Rattle.std.proofs.Common.{arith, sym, ap, ◌∙◌}
use Rattle.sheet.specs.Limits.{entries}
use Rattle.sheet.specs.declared.Sheet.{Sheet}
use Rattle.sheet.proofs.Opening.{same_addable}
use Rattle.stored.specs.Answers.{read_of}
use Rattle.pla_reading.proofs.Ends.{right_count, outs_addable, drawn_sheet}
use Rattle.pla_reading.proofs.said.Said.comes_to.Goals as goal

pub afresh-requires : goal.afresh-requires
afresh-requires c =
    (c.requires.0, outs_addable _ _ c.outs_of-outs.result c.requires.0 c.outs_of-outs.ensures, same_addable _ 0 c.requires.0 (omega arith), same_addable _ 0 c.requires.0 (omega arith))

pub returns : goal.returns
returns c s kept =
    ap (λ (y : Sheet). record { number = 0; place = 0; sheet = y }) (drawn_sheet s c.args.self.now c.outs_of-outs.result kept c.outs_of-outs.ensures c.afresh.ensures)
    ∙ ap (read_of entries)
    (sym (right_count s c.args.self.now c.args.size kept (omega arith) c.if-not-self.false c.requires.1 (sym c.miscounted.ensures ∙ c.in_default.is)))
