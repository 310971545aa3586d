-- What the code of a program tells of a line and of the end of the input: the state behind it, and what it wrote in a lent area.
use Rattle.std.specs.Prelude.{ℕ, ◌≤◌, ◌≡◌, List}
use Rattle.ground.specs.Areas.{Wrote}
use Rattle.machine.specs.Rows.{Row}
use Rattle.machine.specs.Machine.{Machine}

-- room for what a line, or the end of the input, may print
abbrev pub page_room : ℕ
page_room = 640

-- line k was taken in a state; `held` says what the code holds of a state
pub record SteppedBy (M : Machine) {S : Type 0} (held : M.State → S) (k : ℕ) (s : M.State) (row : Row) (out : List ℕ) (c : S) (wrote : ℕ) (later : List ℕ) : Type 0 where
  pub state : M.State
  pub said : List ℕ
  pub step : M.step k s row state said
  pub is : c ≡ held state
  pub laid : Wrote out 0 said wrote later
  pub short : wrote ≤ page_room

-- the input has ended in a state
pub record StoppedBy (M : Machine) (s : M.State) (out : List ℕ) (at wrote : ℕ) (later : List ℕ) : Type 0 where
  pub said : List ℕ
  pub stop : M.stop s said
  pub laid : Wrote out at said wrote later
