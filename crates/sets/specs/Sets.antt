-- Sets of combinations told as numbers, and tables that hold such sets.
use Rattle.std.specs.Prelude.{◌≡◌, Bool, not, List, ℕ, zero, suc, ◌/◌, ◌%◌, ◌^◌, ◌≤◌, ◌<◌, eqb, length, get_or}
use Rattle.boxes.specs.Sums.{only}
use Rattle.boxes.specs.Boxes.{contains, single}

-- the most marks of such a set: it is a number of 32 bits
abbrev pub set_marks : ℕ
set_marks = 5

-- the combination c is in the set u: bit c is on
unfoldable pub has : ℕ → ℕ → Bool
has u zero = eqb (u % 2) 1
has u (suc c) = has (u / 2) c

-- what a table has at a place
abbrev pub value_at : List ℕ → ℕ → ℕ
value_at t b = get_or t b 0

-- the table holds the set of each box over m marks
abbrev pub Sets : ℕ → List ℕ → Type 0
Sets m xs = (b : ℕ) → b < 3 ^ m → (value_at xs b < 2 ^ 32) × ((c : ℕ) → has (value_at xs b) c ≡ contains m b c)

-- the table holds the box of each single combination over m marks
abbrev pub Singles : ℕ → List ℕ → Type 0
Singles m xs = (c : ℕ) → c < 2 ^ m → value_at xs c ≡ single m c

-- the same, for every number of marks that a set can have

abbrev pub AllSets : List ℕ → Type 0
AllSets xs = (m : ℕ) → m ≤ set_marks → Sets m xs

abbrev pub AllSingles : List ℕ → Type 0
AllSingles xs = (m : ℕ) → m ≤ set_marks → Singles m xs

-- the table holds what each combination adds to the outside counts of the class u: 0 where the set has it, and else 1
abbrev pub Outs : ℕ → List ℕ → Type 0
Outs u xs = (length xs ≡ 2 ^ set_marks) × ((c : ℕ) → c < 2 ^ set_marks → value_at xs c ≡ only (not (has u c)) 1)
