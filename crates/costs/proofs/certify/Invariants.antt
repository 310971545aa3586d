-- The boxes of the room below b have their costs in the table.
use mathlib.Core.Path.{◌≡◌}
use lib.ListN.{length}
use Rattle.sets.specs.Sets.{has, value_at}
use Rattle.costs.proofs.Cost.{Priced}
use Rattle.costs.proofs.certify.Given as goal

abbrev pub invariant-loop-b : goal.invariant-loop-b
invariant-loop-b l = (length l.known.costs ≡ 243) × Priced l.m (has l.need) (has l.room) (value_at l.weights.plus) (value_at l.weights.minus) l.known.costs l.b
