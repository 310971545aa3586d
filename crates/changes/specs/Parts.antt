-- What the functions of the changes ask of each other's arguments.
use Rattle.std.specs.Prelude.{ℕ, ◌+◌, ◌^◌, ◌<◌, ◌≡◌, ◌≤◌, Bool, true, false, ◌&&◌, leb, List, Result, Ok, Err}
use Rattle.refusals.specs.Numbers.{number_of}
use Rattle.refusals.specs.declared.Refusal.{Refusal}
use Rattle.refusals.specs.declared.Refusal.TheVariants.{Spoiled, Combination}
use Rattle.tables.specs.declared.Shift.{Shift}
use Rattle.tables.specs.declared.Shift.TheVariants.{Stays, Up, Down}
use Rattle.tables.specs.Tables.{entry, touched}
use Rattle.tables.specs.Parts.{AllBear}
use Rattle.sheet.specs.Limits.{most_marks, most_held, marks_ok}
use Rattle.sheet.specs.Record.{Table, kept}
use Rattle.sheet.specs.declared.Sheet.{Sheet}
use Rattle.changes.specs.Calls.{fits_count, shift_in}
use Rattle.changes.specs.Promises.{SomeShift}
use Rattle.changes.specs.declared.Move.{Move}

-- a result's number in 01's table: 0 when done
abbrev pub number_in : {A : Type 0} → Result A Refusal → ℕ
number_in (Ok _) = 0
number_in (Err e) = number_of e

-- a combination of the sheet: the first two tests of every call have passed
pub record Known (s : Sheet) (c : ℕ) : Type 0 where
  pub marks : marks_ok most_marks s.marks ≡ true
  pub low : c < 2 ^ s.marks

-- or one of them has not
pub data Unknown (s : Sheet) (c : ℕ) : Refusal → Type 0 where
  spoiled : marks_ok most_marks s.marks ≡ false → Unknown s c Spoiled
  beyond : marks_ok most_marks s.marks ≡ true → 2 ^ s.marks ≤ c → Unknown s c Combination

-- both counts of each touched box are those of a box after a move
abbrev pub counts_fit_after : Move → Sheet → ℕ → Bool
counts_fit_after v s c = touched s.marks c (fits_count s.marks v.outside s.outside) && touched s.marks c (fits_count s.marks v.either s.either)

-- the entry of b has room for a shift of its seconds: a receipt may take it to the most, a withdrawal to 0
abbrev pub has_room : Shift → List ℕ → ℕ → Bool
has_room Stays t b = true
has_room (Up d) t b = leb (entry t b + d) most_held
has_room (Down d) t b = leb d (entry t b)

-- an entry, a number of 32 bits, is then at most this
abbrev pub most_after : Shift → ℕ
most_after (Up d) = most_held
most_after _ = 4294967295

-- an accepted move: its combination is one of the sheet, each table has room for its shift, and each shift is one
pub record Accepted (s : Sheet) (v : Move) : Type 0 where
  pub marks : marks_ok most_marks s.marks ≡ true
  pub low : v.at < 2 ^ s.marks
  pub bear : (t : Table) → AllBear s.marks v.at (shift_in t v) (kept t s)
  pub some : (t : Table) → SomeShift (shift_in t v)
  pub moves : (t : Table) × (shift_in t v ≡ Stays → ⊥)
