-- No more boxes are found than passed.
use Rattle.std.proofs.Common.{◌≤◌}
use Rattle.weights.proofs.room.inside.Given as goal

abbrev pub invariant-loop-number : goal.invariant-loop-number
invariant-loop-number l = l.n ≤ l.number
