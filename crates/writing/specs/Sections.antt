-- The sections as lists tell them that have for each combination what it has in the section: 0 where it does not stand there, else 1 or its seconds.
use Rattle.std.specs.Prelude.{ℕ, ◌^◌, ◌<◌, ◌≡◌, cond, List, [], ◌∷◌, ◌++◌, ltb, nat_lt, length, count_by}
use Rattle.tables.specs.Tables.{entry, own}
use Rattle.profiles.specs.declared.Profile.{Profile}
use Rattle.profiles.specs.declared.Profile.TheVariants.{None, One, Two}
use Rattle.stored.specs.Sections.{bytes_behind}
use Rattle.stored.specs.Form.{bytes, listed}
use Rattle.stored.specs.declared.Section.{Section}

-- what is written of a combination, x being what it has
abbrev pub entry_text : Section → ℕ → ℕ → List ℕ
entry_text s c x = cond (ltb 0 x) (c ∷ bytes (bytes_behind s) x) []

-- those that stand in it, and how many they are
abbrev pub list_in : Section → List ℕ → List ℕ
list_in s has = listed (λ c. ltb 0 (entry has c)) (λ c. c ∷ bytes (bytes_behind s) (entry has c)) (length has)

abbrev pub count_in : List ℕ → ℕ
count_in has = count_by (λ x. nat_lt 0 x) has

-- the section
abbrev pub section_in : Section → List ℕ → List ℕ
section_in s has = bytes 2 (count_in has) ++ list_in s has

-- what each combination has of its own in a table
pub record Owns (m : ℕ) (t has : List ℕ) : Type 0 where
  pub long : length has ≡ 32
  pub each : (c : ℕ) → c < 2 ^ m → entry has c ≡ own m t c

-- each group of a profile is a byte
abbrev pub GroupsFit : Profile → Type 0
GroupsFit None = Unit {0}
GroupsFit (One g) = g < 256
GroupsFit (Two g h) = (g < 256) × (h < 256)
