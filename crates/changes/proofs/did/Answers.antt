-- An accepted call's move is accepted.
use mathlib.Core.Path.{sym, subst}
use Rattle.changes.specs.Parts.{Accepted}
use Rattle.changes.proofs.Tests.{accepts}
use Rattle.changes.proofs.did.Goals as goal

pub make-requires : goal.make-requires
make-requires c = subst (Accepted c.args.sheet.now) (sym c.in_ok-v.ensures.comes_to) (accepts c.args.sheet.now c.args.call (sym c.in_ok-v.ensures.number))
