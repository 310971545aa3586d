-- When the counts of a class are sound, and its table, and that what is either holds nothing.
use Rattle.std.specs.Prelude.{ℕ, ◌+◌, ◌^◌, ◌≤◌, ◌<◌, ◌≡◌, true, List}
use Rattle.tables.specs.Tables.{entry, own, Sums}
use Rattle.profiles.specs.Profiles.{profile_ok, breaks}
use Rattle.profiles.specs.declared.Profile.{Profile}
use Rattle.classes.specs.Standings.{tells}
use Rattle.classes.specs.declared.Standing.TheVariants.{Either}

-- Both counts: each is the number of the box's out combinations, and of its either combinations, a single combination having 0 or 1, and the own numbers
-- of each combination tell one of the three standings.
pub record CountsSound (m : ℕ) (outside either : List ℕ) : Type 0 where
  pub outsides : Sums m (entry outside)
  pub eithers : Sums m (entry either)
  pub tells : (c : ℕ) → c < 2 ^ m → own m outside c + own m either c ≤ 1

-- the class table: both counts, a profile that is not faulty, and each combination that breaks it is either
pub record ClassSound (m : ℕ) (p : Profile) (outside either : List ℕ) : Type 0 where
  pub counts : CountsSound m outside either
  pub profile : profile_ok m p ≡ true
  pub obeys : (c : ℕ) → c < 2 ^ m → breaks m p c ≡ true → tells Either (own m outside c) (own m either c) ≡ true

-- an either combination holds nothing
abbrev pub Apart : ℕ → (outside either held : List ℕ) → Type 0
Apart m outside either held = (c : ℕ) → c < 2 ^ m → tells Either (own m outside c) (own m either c) ≡ true → own m held c ≡ 0
