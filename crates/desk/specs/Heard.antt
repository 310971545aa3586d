-- What the desk prints as a page, and by which answers a line can be refused.
use Rattle.std.specs.Prelude.{ℕ, Bool, ◌||◌, List, eqb}
use Rattle.sheet.specs.Record.{Record}
use Rattle.desk.specs.Prints.{Result}

abbrev pub IsResult : List ℕ → Type 0
IsResult text = (r : Record) × Result r text

abbrev pub in_line1 : ℕ → Bool
in_line1 n = eqb n 1 || eqb n 10

abbrev pub in_later_line : ℕ → Bool
in_later_line n = eqb n 3 || eqb n 4 || eqb n 8 || eqb n 9 || eqb n 10
