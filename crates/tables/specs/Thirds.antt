-- What the functions that test and fill a table tell each other: over one mark more it is three parts, with the highest mark off, on, and free.
use Rattle.std.specs.Prelude.{ℕ, ◌+◌, ◌^◌, ◌<◌, ◌≡◌, List, length}
use Rattle.boxes.specs.Boxes.{sum_in}
use Rattle.tables.specs.Tables.{entry}

-- the last part is the sum of the first two
abbrev pub AreSums : (off on free : List ℕ) → Type 0
AreSums off on free = (b : ℕ) → b < length off → entry free b ≡ entry off b + entry on b

-- the table has of each box over m marks the sum of what its combinations have of their own
abbrev pub SumsOf : ℕ → (own t : List ℕ) → Type 0
SumsOf m own t = (b : ℕ) → b < 3 ^ m → entry t b ≡ sum_in m b (entry own)
