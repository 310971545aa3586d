-- No combination below c that is either holds seconds.
use Rattle.std.proofs.Common.{◌≡◌, true, ℕ, ◌<◌}
use Rattle.tables.specs.Tables.{own}
use Rattle.classes.specs.Standings.{tells}
use Rattle.classes.specs.declared.Standing.TheVariants.{Either}
use Rattle.classes.proofs.Counts.apart.Given as goal

abbrev pub invariant-loop-c : goal.invariant-loop-c
invariant-loop-c l = (k : ℕ) → k < l.c → tells Either (own l.self.marks l.self.outside.now k) (own l.self.marks l.self.either.now k) ≡ true → own l.self.marks l.held k ≡ 0
