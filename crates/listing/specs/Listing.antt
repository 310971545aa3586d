-- The list of a sheet's class: the refusals by exact conditions, in 01's order, and otherwise what stands in the lent area.
use Rattle.std.specs.Prelude.{ℕ, ◌<◌, ◌≤◌, ◌≡◌, Bool, List, ◌++◌, length, drop}
use Rattle.lists.specs.Lists.{FirstShortest, most_lines}
use Rattle.sheet.specs.Record.{in_class, not_out}
use Rattle.sheet.specs.Sound.{ClassReady, record_of}
use Rattle.sheet.specs.declared.Sheet.{Sheet}
use Rattle.sheet.specs.Told.{Value}

-- a list of n boxes in a lent area: of the lists that cover `need` inside `room` the first shortest one, at the front, one byte for each box, and the bytes
-- behind it as they were
pub record Laid (m : ℕ) (need room : ℕ → Bool) (area : List ℕ) (n : ℕ) (later : List ℕ) : Type 0 where
  pub list : List ℕ
  pub right : FirstShortest m need room list
  pub size : n ≡ length list
  pub stands : later ≡ list ++ drop (length list) area

-- what `list` answers and leaves in the lent area: 7; 5 where the area is not long enough for every shortest list; or else how many boxes the list has that is
-- laid there: it covers the class that the counts tell, inside what is not out
pub data Listed (most : ℕ) (s : Sheet) (area : List ℕ) : Value → List ℕ → Type 0 where
  spoiled : (ClassReady most s → ⊥) → Listed most s area (record { number = 7; value = 0 }) area
  short : ClassReady most s → length area < most_lines s.marks → Listed most s area (record { number = 5; value = 0 }) area
  given : {n : ℕ} {later : List ℕ} → ClassReady most s → most_lines s.marks ≤ length area
      → Laid s.marks (in_class (record_of s)) (not_out (record_of s)) area n later → Listed most s area (record { number = 0; value = n }) later
