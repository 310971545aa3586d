-- Each combination below c that breaks the profile is either.
use Rattle.std.proofs.Common.{◌≡◌, true, ℕ, ◌<◌}
use Rattle.tables.specs.Tables.{own}
use Rattle.profiles.specs.Profiles.{breaks}
use Rattle.classes.specs.Standings.{tells}
use Rattle.classes.specs.declared.Standing.TheVariants.{Either}
use Rattle.classes.proofs.Counts.obeys.Given as goal

abbrev pub invariant-loop-c : goal.invariant-loop-c
invariant-loop-c l = (k : ℕ) → k < l.c → breaks l.self.marks l.profile k ≡ true → tells Either (own l.self.marks l.self.outside.now k) (own l.self.marks l.self.either.now k) ≡ true
