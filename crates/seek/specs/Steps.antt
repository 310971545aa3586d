-- What the steps of the search ask and tell each other. None of it is in what the search promises.
use Rattle.std.specs.Prelude.{Bool, true, false, List, ℕ, ◌+◌, ◌^◌, ◌<◌, ◌≤◌, length, take}
use Rattle.boxes.specs.Sums.{sum_over}
use Rattle.sets.specs.Sets.{has, value_at}
use Rattle.lists.specs.Lists.{Fits, AtLeast, FirstShortest}
use Rattle.seek.specs.declared.Node.{Node}

-- where no list has fewer than `left` boxes: the first `left` of the area are the first shortest list, or every list has more
abbrev pub Reached : ℕ → (ℕ → Bool) → (ℕ → Bool) → ℕ → Bool → List ℕ → Type 0
Reached m need room left true area = FirstShortest m need room (take left area)
Reached m need room left false area = AtLeast m need room (left + 1)

-- a fitting list of at most `left` boxes costs at most `spare`
abbrev pub Spare : ℕ → List ℕ → (ℕ → Bool) → (ℕ → Bool) → ℕ → ℕ → Type 0
Spare m costs need room left spare = (l : List ℕ) → Fits m need room l → length l ≤ left → sum_over l (value_at costs) ≤ spare

-- what is known where lists of `left` boxes are looked for
pub record Stage (m need room left : ℕ) : Type 0 where
  pub small : need < 2 ^ (2 ^ m)
  pub least : AtLeast m (has need) (has room) left

-- and of what they cost, by a table of costs
pub record Open (m : ℕ) (costs : List ℕ) (need room left spare : ℕ) : Type 0 where
  pub stage : Stage m need room left
  pub most : Spare m costs (has need) (has room) left spare

-- the same of a node of the search
abbrev pub IsOpen : ℕ → List ℕ → Node → Type 0
IsOpen m costs node = Open m costs node.need node.room node.left node.spare
