-- The answer is right of the sums before b.
use Rattle.std.proofs.Common.{◌≡◌, ℕ, ◌+◌, ◌<◌}
use Rattle.ground.specs.Decides.{Decides}
use Rattle.tables.specs.Tables.{entry}
use Rattle.tables.proofs.are_sums.Given as goal

abbrev pub invariant-loop-b : goal.invariant-loop-b
invariant-loop-b l = Decides l.right ((k : ℕ) → k < l.b → entry l.free k ≡ entry l.off k + entry l.on k)
