-- A PROGRAM THAT ANSWERS LINE BY LINE, whatever its states are: what a line leads to and prints at once, and what the end of the input prints.
-- What is printed of a whole input follows (`Output`). A program supplies its `Machine`, and has the theorems of proofs/Pieces and proofs/Outputs.
use Rattle.std.specs.Prelude.{ℕ, ◌+◌, cond, List, [], ◌∷◌, ◌++◌, eqb}
use Rattle.ground.specs.Texts.{ascii}
use Rattle.print.specs.Texts.{decimal}
use Rattle.machine.specs.Rows.{Row, rows}

-- `refused K A`, ended by a newline
unfoldable pub refusal : ℕ → ℕ → List ℕ
refusal k a = ascii "refused " ++ decimal k ++ ascii " " ++ decimal a ++ ascii "\n"

-- printed only if the answer is not 0
abbrev pub spoken : ℕ → ℕ → List ℕ
spoken k a = cond (eqb a 0) [] (refusal k a)

pub record Machine : Type 1 where
  pub State : Type 0
  pub start : State
  -- line k in a state: the state behind it, and what is printed when its newline is in
  pub step : ℕ → State → Row → State → List ℕ → Type 0
  -- the end of the input: what is printed then
  pub stop : State → List ℕ → Type 0

-- what is printed from line k on, in this state, if these lines follow
pub data Onward (M : Machine) : ℕ → M.State → List Row → List ℕ → Type 0 where
  stopped : {k : ℕ} {s : M.State} {text : List ℕ} → M.stop s text → Onward M k s [] text
  line : {k : ℕ} {s t : M.State} {row : Row} {rest : List Row} {now later : List ℕ} → M.step k s row t now → Onward M (k + 1) t rest later
      → Onward M k s (row ∷ rest) (now ++ later)

-- THE OUTPUT OF AN INPUT. Lines are counted from 1.
abbrev pub Output : Machine → List ℕ → List ℕ → Type 0
Output M input output = Onward M 1 M.start (rows input) output
