-- Lines that differ in the form of their running time alone (02, Q-3).
use Rattle.std.specs.Prelude.{ℕ, ◌≡◌, List, ◌++◌}
use Rattle.ground.specs.Texts.{ascii}
use Rattle.times.specs.declared.Form.{Form}
use Rattle.times.specs.Texts.{Readable}

-- a line ends in one space and a running time of v seconds
pub record EndsIn (front line : List ℕ) (v : ℕ) : Type 0 where
  pub time : List ℕ
  pub form : Form
  pub readable : Readable time v form
  pub text : line ≡ front ++ ascii " " ++ time

-- two lines that end in running times of as many seconds, and are the same in front of these
pub record OtherForm (line other : List ℕ) : Type 0 where
  pub front : List ℕ
  pub seconds : ℕ
  pub one : EndsIn front line seconds
  pub two : EndsIn front other seconds
