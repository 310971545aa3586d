-- A PROGRAM IN THE CODE, whichever it is: what a value holds of the states of its machine, and what its calls promise. The trait `Program` (src/program)
-- has these as its clauses.
use Rattle.std.specs.Prelude.{ℕ, ◌≡◌, Bool, true, List, []}
use Rattle.machine.specs.Rows.{Row}
use Rattle.machine.specs.Machine.{Machine}
use Rattle.machine.specs.Steps.{SteppedBy, StoppedBy}

-- which program the values of a type are
pub record Kind (P : Type 0) : Type 1 where
  pub machine : Machine
  -- what the code holds of a state
  pub held : machine.State → P
  -- the states that the program can be in
  pub Can : machine.State → Type 0
  -- nothing more will be printed
  pub over : P → Bool

-- the program stands in this state
pub record In {P : Type 0} (k : Kind P) (p : P) (s : k.machine.State) : Type 0 where
  pub is : p ≡ k.held s
  pub can : k.Can s

-- a program that stands in some state
abbrev pub Runs : {P : Type 0} → Kind P → P → Type 0
Runs k p = (s : k.machine.State) × In k p s

-- line n was taken in a state: what it does is a step of the machine, to a state that the program can be in
pub record Taken {P : Type 0} (k : Kind P) (n : ℕ) (s : k.machine.State) (row : Row) (out : List ℕ) (after : P) (wrote : ℕ) (later : List ℕ) : Type 0 where
  pub by : SteppedBy k.machine k.held n s row out after wrote later
  pub can : k.Can by.state

-- line n, and the end of the input, do what the program's machine says
abbrev pub Steps : {P : Type 0} → Kind P → P → ℕ → Row → List ℕ → P → ℕ → List ℕ → Type 0
Steps k p n row out after wrote later = (s : k.machine.State) → In k p s → Taken k n s row out after wrote later

abbrev pub Stops : {P : Type 0} → Kind P → P → List ℕ → ℕ → ℕ → List ℕ → Type 0
Stops k p out at wrote later = (s : k.machine.State) → In k p s → StoppedBy k.machine s out at wrote later

-- once the program is over it stays over, and nothing is printed, whatever comes
pub record Silent {P : Type 0} (k : Kind P) (s : k.machine.State) : Type 0 where
  pub step : (n : ℕ) (row : Row) → (t : k.machine.State) × k.machine.step n s row t [] × (k.over (k.held t) ≡ true)
  pub stop : k.machine.stop s []

abbrev pub SilentWhenOver : {P : Type 0} → Kind P → Type 0
SilentWhenOver k = (s : k.machine.State) → k.over (k.held s) ≡ true → Silent k s
