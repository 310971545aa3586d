-- The entries of a sheet's tables: how many there are, and when two sheets agree in those of boxes.
use Rattle.std.specs.Prelude.{ℕ, ◌^◌, ◌<◌, ◌≡◌, length}
use Rattle.tables.specs.Tables.{entry}
use Rattle.sheet.specs.Record.{Table, kept}
use Rattle.sheet.specs.declared.Sheet.{Sheet}

-- a sheet with n entries in each table
abbrev pub Long : ℕ → Sheet → Type 0
Long n s = (t : Table) → length (kept t s) ≡ n

-- two sheets that agree but for the entries at 3^m and above
pub record Agree (s u : Sheet) : Type 0 where
  pub marks : s.marks ≡ u.marks
  pub profile : s.profile ≡ u.profile
  pub tables : (t : Table) (b : ℕ) → b < 3 ^ s.marks → entry (kept t s) b ≡ entry (kept t u) b
