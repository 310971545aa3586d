-- By whether it is too long; else by its length.
use Rattle.std.proofs.Common.{not, arith, sym, ap, ◌∙◌}
use Rattle.machine.specs.AtHand.{is_none}
use Rattle.machine.proofs.AtHand.{row_long, row_short, none_taken}
use Rattle.machine.proofs.line.Line.is_none.Goals as goal

pub returns-then-not-self : goal.returns-then-not-self
returns-then-not-self c =
    let l = c.args.self.now in
    sym (ap is_none (row_short l c.if-not-self.true) ∙ none_taken l.len l.text (omega arith))

pub returns-else-not-self : goal.returns-else-not-self
returns-else-not-self c = let l = c.args.self.now in ap not c.if-not-self.false ∙ sym (ap is_none (row_long l c.if-not-self.false))
