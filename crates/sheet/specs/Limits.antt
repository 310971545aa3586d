-- The numbers of 01 that belong to the sheet. The code has them as constants of `Sheet`; the contract of `Sheet::limits` says that they are the same.
use Rattle.std.specs.Prelude.{ℕ, Bool, ◌&&◌, leb}

abbrev pub most_marks : ℕ
most_marks = 5

abbrev pub entries : ℕ
entries = 243

abbrev pub most_held : ℕ
most_held = 4000000000

abbrev pub most_amount : ℕ
most_amount = 35999

-- the number of marks is 1 to the most that there may be
unfoldable pub marks_ok : ℕ → ℕ → Bool
marks_ok most m = leb 1 m && leb m most

-- the amount of a receipt or a withdrawal is 1 to 35,999 seconds
unfoldable pub amount_ok : ℕ → Bool
amount_ok d = leb 1 d && leb d most_amount
