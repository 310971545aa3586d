-- What `months` prints as a page, by which answers a line can be refused (line 2 as line 1 of the desk), and in which order all that comes.
use Rattle.std.specs.Prelude.{ℕ, ◌+◌, ◌≤◌, ◌≡◌, Bool, ◌||◌, List, [], ◌++◌, eqb}
use Rattle.machine.specs.Machine.{refusal}
use Rattle.desk.specs.Heard as desk
use Rattle.bookings.specs.Bookings.{History}
use Rattle.year.specs.Prints.{page}

abbrev pub IsPage : List ℕ → Type 0
IsPage text = (h : History) × (text ≡ page h)

abbrev pub in_line1 : ℕ → Bool
in_line1 n = eqb n 10

abbrev pub in_later_line : ℕ → Bool
in_later_line n = desk.in_later_line n || eqb n 11

-- an output from line k on: refusals in the order of their lines, then nothing or the rows, and nothing behind these
pub data RowsLast : ℕ → List ℕ → Type 0 where
  nothing : {k : ℕ} → RowsLast k []
  rows : {k : ℕ} (h : History) → RowsLast k (page h)
  refused : (k n a : ℕ) {rest : List ℕ} → k ≤ n → RowsLast (n + 1) rest → RowsLast k (refusal n a ++ rest)

-- a text that ends with another
abbrev pub EndsWith : (last text : List ℕ) → Type 0
EndsWith last text = (front : List ℕ) × (text ≡ front ++ last)
