-- Nine digits at most.
use Prim.Native.Nat.{◌<◌}
use Rattle.rounds.proofs.decimal.Given as goal

abbrev pub invariant-loop-b : goal.invariant-loop-b
invariant-loop-b l = l.n < 1000000000
