-- What a sheet is about, without any kept number: its marks and its carrier profile, how each combination stands to the class, and the seconds that each
-- holds.
-- Each table of a sheet keeps the sums, over the combinations of each box, of one quantity of the record.
use Rattle.std.specs.Prelude.{ℕ, ◌^◌, ◌<◌, Bool, true, false, not, cond, ◌&&◌, ◌≡◌, List, eqb, ltb}
use Rattle.tables.specs.Tables.{afresh}
use Rattle.profiles.specs.Profiles.{breaks}
use Rattle.profiles.specs.declared.Profile.{Profile}
use Rattle.profiles.specs.declared.Profile.TheVariants.{None}
use Rattle.classes.specs.Standings.{is_in, is_out, is_either, outs, eithers}
use Rattle.classes.specs.declared.Standing.{Standing}
use Rattle.classes.specs.declared.Standing.TheVariants.{Out, Either}
use Rattle.sheet.specs.declared.Sheet.{Sheet}

pub record Record : Type 0 where
  pub marks : ℕ
  pub profile : Profile
  pub standing : ℕ → Standing
  pub times : ℕ → ℕ

abbrev pub with_standing : (ℕ → Standing) → Record → Record
with_standing standing r = record { marks = r.marks; profile = r.profile; standing = standing; times = r.times }

abbrev pub with_profile : Profile → Record → Record
with_profile p r = record { marks = r.marks; profile = p; standing = r.standing; times = r.times }

abbrev pub with_times : (ℕ → ℕ) → Record → Record
with_times times r = record { marks = r.marks; profile = r.profile; standing = r.standing; times = times }

-- f with v at c
abbrev pub updated : {A : Type 0} → ℕ → A → (ℕ → A) → ℕ → A
updated c v f x = cond (eqb x c) v (f x)

-- the class: what a list must cover; and what it may cover
abbrev pub in_class : Record → ℕ → Bool
in_class r c = is_in (r.standing c)

abbrev pub not_out : Record → ℕ → Bool
not_out r c = not (is_out (r.standing c))

-- no combination is either: a record as 01 knows it
abbrev pub NoneEither : Record → Type 0
NoneEither r = (c : ℕ) → is_either (r.standing c) ≡ false

-- each combination that breaks the profile is either
abbrev pub Obeys : Record → Type 0
Obeys r = (c : ℕ) → c < 2 ^ r.marks → breaks r.marks r.profile c ≡ true → is_either (r.standing c) ≡ true

-- an opened sheet's: the combinations that break the profile are either, the others out, and nothing is held
abbrev pub opened_under : ℕ → Profile → Record
opened_under m p = record { marks = m; profile = p; standing = λ c. cond (breaks m p c && ltb c (2 ^ m)) Either Out; times = λ c. 0 }

-- without a profile
abbrev pub opened : ℕ → Record
opened m = opened_under m None

-- the tables of a sheet
pub data Table : Type 0 where
  outside_counts : Table
  either_counts : Table
  held_seconds : Table

abbrev pub kept : Table → Sheet → List ℕ
kept outside_counts s = s.outside
kept either_counts s = s.either
kept held_seconds s = s.held

-- the quantity that a table keeps the sums of: what each combination adds
abbrev pub quantity : Table → Record → ℕ → ℕ
quantity outside_counts r c = outs (r.standing c)
quantity either_counts r c = eithers (r.standing c)
quantity held_seconds r c = r.times c

abbrev pub sheet_with : ℕ → Profile → List ℕ → List ℕ → List ℕ → Sheet
sheet_with m p outside either held = record { marks = m; profile = p; outside = outside; either = either; held = held }

-- the sheet of n entries a table, worked out afresh from what each combination adds to each table
abbrev pub sheet_from : ℕ → ℕ → Profile → (outs eithers times : ℕ → ℕ) → Sheet
sheet_from n m p outs eithers times = sheet_with m p (afresh n m outs) (afresh n m eithers) (afresh n m times)

abbrev pub sheet_of : ℕ → Record → Sheet
sheet_of n r = sheet_from n r.marks r.profile (quantity outside_counts r) (quantity either_counts r) (quantity held_seconds r)
