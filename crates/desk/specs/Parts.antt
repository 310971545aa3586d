-- What the functions of the desk tell each other.
use Rattle.std.specs.Prelude.{ℕ, ◌+◌, ◌*◌, ◌≤◌, ◌<◌, ◌≡◌, Option, Result as Told, Ok, Err, List, length, get_or}
use Rattle.ground.specs.Areas.{Wrote}
use Rattle.refusals.specs.Numbers.{number_of}
use Rattle.refusals.specs.declared.Refusal.{Refusal}
use Rattle.lists.specs.Lists.{most_lines}
use Rattle.sheet.specs.Limits.{most_marks, entries}
use Rattle.sheet.specs.Record.{Record, sheet_of}
use Rattle.sheet.specs.declared.Sheet.{Sheet}
use Rattle.sheet.specs.Told.{Answer}
use Rattle.histories.specs.Histories.{Good}
use Rattle.machine.specs.Rows.{Row}
use Rattle.lines.specs.Words.{RowOpens}
use Rattle.machine.specs.Steps.{SteppedBy}
use Rattle.desk.specs.Prints.{Result, first_number, first_record, first, going, holdings}
use Rattle.desk.specs.States.{desk_of}
use Rattle.desk.specs.declared.stages.Desk.{Desk}

-- a sheet that was worked out afresh from this record
pub record OfRecord (sheet : Sheet) (r : Record) : Type 0 where
  pub good : Good r
  pub is : sheet ≡ sheet_of entries r

abbrev pub SheetOfRecord : Sheet → Type 0
SheetOfRecord sheet = (r : Record) × OfRecord sheet r

-- what line 1 is answered, and the sheet that it opens
pub record FirstAnswered (row : Row) (a : Answer) : Type 0 where
  pub says : Option ℕ
  pub opens : RowOpens row says
  pub is : a ≡ record { number = first_number says; sheet = sheet_of entries (first_record says) }

-- what a call is answered
abbrev pub answer_number : Told (Unit {0}) Refusal → ℕ
answer_number (Ok x) = 0
answer_number (Err e) = number_of e

-- line k was taken as line 1, and as a later line
abbrev pub FirstTaken : ℕ → Row → List ℕ → Desk → ℕ → List ℕ → Type 0
FirstTaken k row out after wrote later = SteppedBy holdings desk_of k first row out after wrote later

abbrev pub LaterTaken : ℕ → Record → Row → List ℕ → Desk → ℕ → List ℕ → Type 0
LaterTaken k r row out after wrote later = SteppedBy holdings desk_of k (going r) row out after wrote later

-- room for the two lines in front of the list, for a line with a time, and for the result
abbrev pub heads_room : ℕ
heads_room = 64

abbrev pub line_room : ℕ
line_room = 32

abbrev pub result_room : ℕ
result_room = heads_room + line_room * (most_lines most_marks + 1)

-- each number of the list is the place of an entry
abbrev pub HaveEntries : List ℕ → List ℕ → Type 0
HaveEntries list held = (k : ℕ) → k < length list → get_or list k 0 < length held

-- the result was laid in the area
pub record Printed (r : Record) (out : List ℕ) (at next : ℕ) (later : List ℕ) : Type 0 where
  pub text : List ℕ
  pub result : Result r text
  pub wrote : Wrote out at text next later
  pub short : next ≤ at + result_room
