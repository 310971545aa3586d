-- What is promised of every call that changes a sheet, whatever the sheet: theorems of proofs/Alters and Above.
use Rattle.std.specs.Prelude.{ℕ, ◌^◌, ◌<◌, ◌≤◌, ◌≡◌, length}
use Rattle.tables.specs.declared.Shift.{Shift}
use Rattle.tables.specs.declared.Shift.TheVariants.{Stays, Up, Down}
use Rattle.tables.specs.Tables.{entry, Shifted}
use Rattle.sheet.specs.Record.{Table, kept}
use Rattle.sheet.specs.Entries.{Agree}
use Rattle.sheet.specs.declared.Sheet.{Sheet}
use Rattle.sheet.specs.Told.{Answer}
use Rattle.changes.specs.Calls.{shift_in}
use Rattle.changes.specs.declared.Move.{Move}

-- the same answer, and sheets that agree so
pub record Alike (a z : Answer) : Type 0 where
  pub number : a.number ≡ z.number
  pub sheet : Agree a.sheet z.sheet

-- the entries of s at 3^m and above stand in u as they were
abbrev pub AboveKept : Sheet → Sheet → Type 0
AboveKept s u = (t : Table) (b : ℕ) → 3 ^ s.marks ≤ b → b < length (kept t s) → entry (kept t u) b ≡ entry (kept t s) b

-- a shift, if it is one, is by at least one
abbrev pub SomeShift : Shift → Type 0
SomeShift Stays = Unit {0}
SomeShift (Up d) = 0 < d
SomeShift (Down d) = 0 < d

-- a move was made: each table that it shifts differs in exactly the boxes that contain the combination, each of them, and nothing else does; and it
-- shifts one
pub record Altered (v : Move) (s u : Sheet) : Type 0 where
  pub marks : u.marks ≡ s.marks
  pub profile : u.profile ≡ s.profile
  pub tables : (t : Table) → Shifted s.marks v.at (shift_in t v) (kept t s) (kept t u)
  pub some : (t : Table) → SomeShift (shift_in t v)
  pub moves : (t : Table) × (shift_in t v ≡ Stays → ⊥)
