-- The sum so far is the weight of the set's combinations below c.
use mathlib.Core.Path.{◌≡◌}
use Prim.Native.Nat.{◌≤◌, ◌*◌}
use Rattle.boxes.specs.Sums.{sum}
use Rattle.sets.specs.Sets.{has, value_at}
use Rattle.costs.proofs.Cost.{given}
use Rattle.costs.proofs.weight_of.Given as goal

abbrev pub invariant-loop-c : goal.invariant-loop-c
invariant-loop-c l = (l.total ≡ sum l.c (given (has l.set) (value_at l.weights))) × (l.total ≤ l.c * 4294967295)
