-- By whether it is too long; else as many bytes as its length says, or all.
use Rattle.std.proofs.Common.{arith, sym, ap, ◌∙◌}
use Rattle.machine.specs.Rows.{whole}
use Rattle.machine.proofs.AtHand.{row_long, row_short, all_taken}
use Rattle.machine.proofs.line.Line.text.Goals as goal

pub returns-then-lost : goal.returns-then-lost
returns-then-lost c = row_long c.args.self.now c.if-lost.true

pub returns : goal.returns
returns c =
    let l = c.args.self.now in
    row_short l c.if-lost.false ∙ sym (ap whole (all_taken l.len c.min.result l.text (omega arith) (λ h. omega arith) (λ h. omega arith)))
