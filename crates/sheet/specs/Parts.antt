-- What the functions of the sheet ask of each other's arguments.
use Rattle.std.specs.Prelude.{ℕ, ◌^◌, ◌≤◌, ◌<◌, List, length}
use Rattle.boxes.specs.Boxes.{sum_in, all_free}
use Rattle.tables.specs.Tables.{entry}

-- a list with a number for each combination, which add up below 2^32
pub record Addable (m : ℕ) (own : List ℕ) : Type 0 where
  pub long : 2 ^ m ≤ length own
  pub sum : sum_in m (all_free m) (entry own) < 2 ^ 32
