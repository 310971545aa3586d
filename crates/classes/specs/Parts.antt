-- What the functions of a class table ask of their arguments.
use Rattle.std.specs.Prelude.{ℕ, ◌^◌, ◌≤◌, List, length}

-- a table over m marks, at most 8
pub record TableOver (m : ℕ) (t : List ℕ) : Type 0 where
  pub marks : m ≤ 8
  pub long : 3 ^ m ≤ length t
