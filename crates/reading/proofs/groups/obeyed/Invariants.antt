-- Each combination below c that breaks the profile has a number other than 0.
use Rattle.std.proofs.Common.{◌≡◌, ℕ, ◌<◌, true}
use Rattle.tables.specs.Tables.{entry}
use Rattle.profiles.specs.Profiles.{breaks}
use Rattle.reading.proofs.groups.obeyed.Given as goal

abbrev pub invariant-loop-c : goal.invariant-loop-c
invariant-loop-c l = (k : ℕ) → k < l.c → breaks l.m l.profile k ≡ true → 0 < entry l.eithers k
