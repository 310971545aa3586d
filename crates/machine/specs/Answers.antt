-- What is asked of a machine so that exactly one output belongs to each input (proofs/Outputs).
use Rattle.std.specs.Prelude.{ℕ, ◌≡◌, List}
use Rattle.machine.specs.Rows.{Row}
use Rattle.machine.specs.Machine.{Machine}

-- no line in a state leads to two states or prints two texts, and no end of the input prints two
pub record OneAnswer (M : Machine) : Type 0 where
  pub step : {k : ℕ} {s t u : M.State} {row : Row} {a b : List ℕ} → M.step k s row t a → M.step k s row u b → (t ≡ u) × (a ≡ b)
  pub stop : {s : M.State} {a b : List ℕ} → M.stop s a → M.stop s b → a ≡ b

-- in the states that it can be in, every line and every end of the input has an answer
pub record SomeAnswer (M : Machine) : Type 1 where
  pub Can : M.State → Type 0
  pub start : Can M.start
  pub step : (k : ℕ) (s : M.State) (row : Row) → Can s → (t : M.State) × (now : List ℕ) × M.step k s row t now × Can t
  pub stop : (s : M.State) → Can s → (text : List ℕ) × M.stop s text
