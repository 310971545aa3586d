-- A test decides a statement: it answers true exactly if the statement holds.
use Rattle.std.specs.Prelude.{◌≡◌, Bool, true}

pub record Decides (r : Bool) (P : Type 0) : Type 0 where
  pub yes : r ≡ true → P
  pub sure : P → r ≡ true
