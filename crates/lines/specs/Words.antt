-- What a line of at most 40 bytes says (01, 'Desk program'). A line is told without its newline.
use Rattle.std.specs.Prelude.{ℕ, ◌+◌, ◌^◌, ◌<◌, ◌≤◌, ◌≡◌, List, [], ◌∷◌, ◌++◌, Option, Some, None}
use Rattle.ground.specs.Texts.{ascii}
use Rattle.ground.specs.Figures.{figures}
use Rattle.times.specs.declared.Form.{Form}
use Rattle.times.specs.Texts.{Readable}
use Rattle.classes.specs.declared.Standing.TheVariants.{In, Out}
use Rattle.changes.specs.declared.Call.TheVariants.{Change, Receive, Withdraw}
use Rattle.machine.specs.Rows.{Row, whole, spoiled}
use Rattle.lines.specs.declared.Order.{Order}
use Rattle.lines.specs.declared.Order.TheVariants.{Make, End, Unreadable}

-- P: the combination c as m characters 0 or 1, highest mark first
abbrev pub written : ℕ → ℕ → List ℕ
written m c = figures 2 m c

-- a verb and P: `in P`, `out P`
pub record Names (m : ℕ) (verb line : List ℕ) (c : ℕ) : Type 0 where
  pub small : c < 2 ^ m
  pub text : line ≡ verb ++ written m c

-- a verb, P and T in the form f, with one space between parts: `recv P T`, `gone P T`
pub record NamesAmount (m : ℕ) (verb line : List ℕ) (c d : ℕ) (f : Form) : Type 0 where
  pub small : c < 2 ^ m
  pub time : List ℕ
  pub readable : Readable time d f
  pub text : line ≡ verb ++ written m c ++ ascii " " ++ time

-- what a line says, of a sheet with m marks: a call, and the form of its running time, if it has one
pub data Says (m : ℕ) (line : List ℕ) : Order → Type 0 where
  enters : {c : ℕ} → Names m (ascii "in ") line c → Says m line (Make (Change In c) None)
  leaves : {c : ℕ} → Names m (ascii "out ") line c → Says m line (Make (Change Out c) None)
  receives : {c d : ℕ} {f : Form} → NamesAmount m (ascii "recv ") line c d f → Says m line (Make (Receive c d) (Some f))
  withdraws : {c d : ℕ} {f : Form} → NamesAmount m (ascii "gone ") line c d f → Says m line (Make (Withdraw c d) (Some f))
  ends : line ≡ ascii "end" → Says m line End

-- and what it asks for: a line that says nothing of these is unreadable
pub data Asked (m : ℕ) (line : List ℕ) : Order → Type 0 where
  said : {o : Order} → Says m line o → Asked m line o
  nothing : ((o : Order) → Says m line o → ⊥) → Asked m line Unreadable

-- line 1: `marks` and one digit
abbrev pub MarksLine : List ℕ → ℕ → Type 0
MarksLine line n = (n ≤ 9) × (line ≡ ascii "marks " ++ (48 + n) ∷ [])

pub data Opens (line : List ℕ) : Option ℕ → Type 0 where
  marks : {n : ℕ} → MarksLine line n → Opens line (Some n)
  other : ((n : ℕ) → MarksLine line n → ⊥) → Opens line None

-- the same of a line of an input: one that is too long or not ended is unreadable

pub data RowAsks (m : ℕ) : Row → Order → Type 0 where
  read : {line : List ℕ} {o : Order} → Asked m line o → RowAsks m (whole line) o
  lost : RowAsks m spoiled Unreadable

pub data RowOpens : Row → Option ℕ → Type 0 where
  read : {line : List ℕ} {f : Option ℕ} → Opens line f → RowOpens (whole line) f
  lost : RowOpens spoiled None
