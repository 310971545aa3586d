-- Reading a text: a number and its form, or the place of the fault (01, 'Running times'). L t v f says that the text t is readable, as the number v
-- in the form f.
use Rattle.std.specs.Prelude.{ℕ, ◌≤◌, ◌≡◌, List, length}
use Rattle.ground.specs.Texts.{Begins}
use Rattle.times.specs.declared.Form.{Form}
use Rattle.times.specs.declared.Time.{Time}
use Rattle.times.specs.declared.Time.TheVariants.{Value, Fault}

-- a is a beginning of t that is also the beginning of some readable text
pub record Common (L : List ℕ → ℕ → Form → Type 0) (t a : List ℕ) : Type 0 where
  pub of_text : Begins a t
  pub other : List ℕ
  pub number : ℕ
  pub form : Form
  pub readable : L other number form
  pub of_other : Begins a other

-- p is the length of the longest beginning that is also the beginning of some readable text
pub record Place (L : List ℕ → ℕ → Form → Type 0) (t : List ℕ) (p : ℕ) : Type 0 where
  pub best : List ℕ
  pub common : Common L t best
  pub size : length best ≡ p
  pub longest : (a : List ℕ) → Common L t a → length a ≤ p

-- what reading t gives: its value and form, where t is readable, and else the place
pub data ReadsAs (L : List ℕ → ℕ → Form → Type 0) (t : List ℕ) : Time → Type 0 where
  value : {v : ℕ} {f : Form} → L t v f → ReadsAs L t (Value v f)
  fault : {p : ℕ} → ((v : ℕ) (f : Form) → L t v f → ⊥) → Place L t p → ReadsAs L t (Fault p)
