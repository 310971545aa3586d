-- What the reader and the writer share besides the definition.
use Rattle.std.specs.Prelude.{ℕ, ◌<◌, ◌≡◌, ◌&&◌, List, eqb, length}
use Rattle.boxes.specs.Sums.{only}
use Rattle.tables.specs.Tables.{entry}

-- 1 for each combination that has 0 in both lists: what is neither in nor either is out, and what is neither out nor either is in
pub record Neither (a b rest : List ℕ) : Type 0 where
  pub long : length rest ≡ 32
  pub each : (c : ℕ) → c < 32 → entry rest c ≡ only (eqb (entry a c) 0 && eqb (entry b c) 0) 1
