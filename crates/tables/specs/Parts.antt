-- What the functions on tables ask of each other's arguments.
use Rattle.std.specs.Prelude.{ℕ, ◌+◌, ◌*◌, ◌^◌, ◌≤◌, ◌<◌, ◌≡◌, Bool, true, List, length}
use Rattle.boxes.specs.Boxes.{contains, free_count}
use Rattle.tables.specs.declared.Shift.{Shift}
use Rattle.tables.specs.declared.Shift.TheVariants.{Stays, Up, Down}
use Rattle.tables.specs.Tables.{entry, fits_shifted, Shifts}

-- a table over m marks, at most 8, and one of its combinations
pub record Over (m c : ℕ) (t : List ℕ) : Type 0 where
  pub marks : m ≤ 8
  pub low : c < 2 ^ m
  pub long : 3 ^ m ≤ length t

-- x has room for the shift: it stays within 0 to 2^32 - 1
abbrev pub Bears : Shift → ℕ → Type 0
Bears Stays x = Unit {0}
Bears (Up d) x = x + d < 2 ^ 32
Bears (Down d) x = d ≤ x

-- and so has each entry that is shifted at c
abbrev pub AllBear : ℕ → ℕ → Shift → List ℕ → Type 0
AllBear m c s t = (b : ℕ) → contains m b c ≡ true → Bears s (entry t b)

-- the entry of b, shifted, is 0 to `most` and `each` more for each combination of the box
abbrev pub fits_moved : ℕ → Shift → List ℕ → ℕ → ℕ → ℕ → Bool
fits_moved m s t most each b = fits_shifted s (most + each * 2 ^ free_count m b) (entry t b)

-- g is f but for c, where it is shifted: what a move does to the quantity that a table keeps the sums of
pub record ShiftsAt (m c : ℕ) (s : Shift) (f g : ℕ → ℕ) : Type 0 where
  pub here : Shifts s (f c) (g c)
  pub others : (x : ℕ) → x < 2 ^ m → (x ≡ c → ⊥) → g x ≡ f x
