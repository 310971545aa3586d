-- When a sheet's tables are sound, and what they tell of the standings and times.
use Rattle.std.specs.Prelude.{ℕ, ◌^◌, ◌≤◌, ◌≡◌, Bool, true, cond, List, ltb}
use Rattle.boxes.specs.Boxes.{all_free}
use Rattle.boxes.specs.Sums.{sum, only}
use Rattle.tables.specs.Tables.{entry, own, Sums}
use Rattle.classes.specs.Standings.{told_by}
use Rattle.classes.specs.Sound.{ClassSound, Apart}
use Rattle.classes.specs.declared.Standing.TheVariants.{Out}
use Rattle.sheet.specs.Limits.{most_held, marks_ok}
use Rattle.sheet.specs.Record.{Record, Table, kept, outside_counts, either_counts}
use Rattle.sheet.specs.declared.Sheet.{Sheet}

-- the own number of a combination in a table
abbrev pub own_in : Table → Sheet → ℕ → ℕ
own_in t s c = own s.marks (kept t s) c

-- the time table: each entry is the sum over the box's combinations, the all-free box holds at most 4,000,000,000, and an either combination nothing
pub record TimesSound (m : ℕ) (outside either held : List ℕ) : Type 0 where
  pub sums : Sums m (entry held)
  pub most : entry held (all_free m) ≤ most_held
  pub apart : Apart m outside either held

-- what the tables tell, whether sound or not: a number that is no combination is out
abbrev pub record_of : Sheet → Record
record_of s = record {
  marks = s.marks;
  profile = s.profile;
  standing = λ c. cond (ltb c (2 ^ s.marks)) (told_by (own_in outside_counts s c) (own_in either_counts s c)) Out;
  times = own s.marks s.held;
}

-- fit for a call that reads the class: 1 to `most` marks, and a sound class table
pub record ClassReady (most : ℕ) (s : Sheet) : Type 0 where
  pub marks : marks_ok most s.marks ≡ true
  pub class : ClassSound s.marks s.profile s.outside s.either

-- fit for a call that reads the times as well
pub record Ready (most : ℕ) (s : Sheet) : Type 0 where
  pub marks : marks_ok most s.marks ≡ true
  pub class : ClassSound s.marks s.profile s.outside s.either
  pub times : TimesSound s.marks s.outside s.either s.held

-- how many combinations are in the class
abbrev pub size_of : ℕ → (ℕ → Bool) → ℕ
size_of m class = sum (2 ^ m) (λ c. only (class c) 1)
