-- The own counts of every combination below c tell a standing.
use Rattle.std.proofs.Common.{ℕ, ◌+◌, ◌≤◌, ◌<◌}
use Rattle.tables.specs.Tables.{own}
use Rattle.classes.proofs.Counts.each_tells.Given as goal

abbrev pub invariant-loop-c : goal.invariant-loop-c
invariant-loop-c l = (k : ℕ) → k < l.c → own l.self.marks l.self.outside.now k + own l.self.marks l.self.either.now k ≤ 1
