-- What a line of a year says (02, Q-2). A line is told without its newline.
use Rattle.std.specs.Prelude.{ℕ, ◌≤◌, ◌≡◌, List, ◌++◌, Option, Some, None}
use Rattle.ground.specs.Texts.{ascii}
use Rattle.dates.specs.declared.date.Date.{Date}
use Rattle.dates.specs.Texts.{Writes, DatedBy}
use Rattle.times.specs.declared.Form.{Form}
use Rattle.changes.specs.declared.Call.{Call}
use Rattle.machine.specs.Rows.{Row, whole, spoiled}
use Rattle.lines.specs.declared.Order.{Order}
use Rattle.lines.specs.declared.Order.TheVariants.{Make, Unreadable}
use Rattle.lines.specs.Words.{Says, Asked as AskedPlain}
use Rattle.year_lines.specs.declared.Slip.{Slip}
use Rattle.year_lines.specs.declared.Slip.TheVariants.{Dated, Plain}

-- line 1: `year` and four digits, 1600 to 9999
pub record YearLine (line : List ℕ) (y : ℕ) : Type 0 where
  pub from : 1600 ≤ y
  pub number : List ℕ
  pub writes : Writes 4 number y
  pub text : line ≡ ascii "year " ++ number

pub data NamesYear (line : List ℕ) : Option ℕ → Type 0 where
  year : {y : ℕ} → YearLine line y → NamesYear line (Some y)
  other : ((y : ℕ) → YearLine line y → ⊥) → NamesYear line None

-- a line behind line 2: a date, one space and a line of the desk that makes a call
pub record SaysOn (m : ℕ) (line : List ℕ) (d : Date) (c : Call) (f : Option Form) : Type 0 where
  pub rest : List ℕ
  pub date : DatedBy line d rest
  pub call : Says m rest (Make c f)

-- and what it asks for: what is not of this form is read as a line of the desk
pub data Asked (m : ℕ) (line : List ℕ) : Slip → Type 0 where
  dated : {d : Date} {c : Call} {f : Option Form} → SaysOn m line d c f → Asked m line (Dated d c f)
  plain : {o : Order} → ((d : Date) (c : Call) (f : Option Form) → SaysOn m line d c f → ⊥) → AskedPlain m line o → Asked m line (Plain o)

-- the same of a line of an input: one that is too long or not ended is unreadable

pub data RowNames : Row → Option ℕ → Type 0 where
  read : {line : List ℕ} {n : Option ℕ} → NamesYear line n → RowNames (whole line) n
  lost : RowNames spoiled None

pub data RowAsks (m : ℕ) : Row → Slip → Type 0 where
  read : {line : List ℕ} {s : Slip} → Asked m line s → RowAsks m (whole line) s
  lost : RowAsks m spoiled (Plain Unreadable)
