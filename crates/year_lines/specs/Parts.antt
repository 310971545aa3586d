-- What the functions of the reader tell each other of a line with a date in front.
use Rattle.std.specs.Prelude.{ℕ, List, Option, Some, None}
use Rattle.dates.specs.declared.date.Date.{Date}
use Rattle.times.specs.declared.Form.{Form}
use Rattle.changes.specs.declared.Call.{Call}
use Rattle.year_lines.specs.declared.Slip.{Slip}
use Rattle.year_lines.specs.Slips.{SaysOn, Asked}

-- a line that makes a call on a day asks for it, or it makes none
abbrev pub DatedOr : ℕ → List ℕ → Option Slip → Type 0
DatedOr m line (Some s) = Asked m line s
DatedOr m line None = (d : Date) (c : Call) (f : Option Form) → SaysOn m line d c f → ⊥
