-- What the search answers, for sets of combinations told as numbers.
use Rattle.std.specs.Prelude.{Bool, List, ℕ, ◌^◌, ◌<◌, ◌≤◌, length, take}
use Rattle.sets.specs.Sets.{set_marks, has}
use Rattle.lists.specs.Lists.{Within, FirstShortest, most_lines}

-- the search may be asked: not too many marks, combinations of these, what is needed has room, and an area for as many boxes as a list can have
pub record Askable (m need room : ℕ) (area : List ℕ) : Type 0 where
  pub marks : m ≤ set_marks
  pub small : need < 2 ^ (2 ^ m)
  pub within : Within (has need) (has room)
  pub long : most_lines m ≤ length area

-- a number of boxes, and so many at the front of the area are the first shortest list: what stands behind it in the area is the search's own
abbrev pub Sought : ℕ → (ℕ → Bool) → (ℕ → Bool) → ℕ → List ℕ → Type 0
Sought m need room n area = (n ≤ length area) × FirstShortest m need room (take n area)
