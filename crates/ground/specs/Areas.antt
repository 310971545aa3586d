-- Text in a lent area.
use Rattle.std.specs.Prelude.{ℕ, ◌+◌, ◌≡◌, List, ◌++◌, length, take, drop}

-- an area with a text laid at a place: what stood before it and behind it stays
unfoldable pub laid : List ℕ → ℕ → List ℕ → List ℕ
laid out at text = take at out ++ text ++ drop (at + length text) out

-- a call laid a text at a place of an area, which is `later` then, and answered the next place
pub record Wrote (out : List ℕ) (at : ℕ) (text : List ℕ) (next : ℕ) (later : List ℕ) : Type 0 where
  pub place : next ≡ at + length text
  pub area : later ≡ laid out at text
