-- The desk in the code: what it holds of a state of the machine `holdings`, and what its calls promise.
use Rattle.std.specs.Prelude.{ℕ, Bool, true, false, List}
use Rattle.sheet.specs.Limits.{entries}
use Rattle.sheet.specs.Record.{Record, sheet_of, opened}
use Rattle.histories.specs.Histories.{Good}
use Rattle.machine.specs.Rows.{Row}
use Rattle.machine.specs.Steps.{SteppedBy}
use Rattle.machine.specs.Programs as machine
use Rattle.desk.specs.Prints.{State, first, going, over, holdings}
use Rattle.desk.specs.declared.stages.Desk.{Desk}
use Rattle.desk.specs.declared.stages.Desk.TheVariants.{Opening, Going, Over}

abbrev pub record_in : State → Record
record_in first = opened 1
record_in (going r) = r
record_in (over r) = r

-- the sheet is the one worked out afresh from the record
abbrev pub desk_of : State → Desk
desk_of first = Opening
desk_of (going r) = Going (sheet_of entries r)
desk_of (over r) = Over (sheet_of entries r)

abbrev pub is_over : Desk → Bool
is_over Opening = false
is_over (Going sheet) = false
is_over (Over sheet) = true

-- the program `holdings`
abbrev pub kind : machine.Kind Desk
kind = record { machine = holdings; held = desk_of; Can = λ s. Good (record_in s); over = is_over }

-- the desk stands in this state
abbrev pub In : Desk → State → Type 0
In d s = machine.In kind d s

-- where a line leads, and how much was written
pub record Stepped : Type 0 where
  pub desk : Desk
  pub wrote : ℕ

-- line k was taken in this state
abbrev pub SteppedTo : ℕ → State → Row → List ℕ → Stepped → List ℕ → Type 0
SteppedTo k s row out r later = SteppedBy holdings desk_of k s row out r.desk r.wrote later
