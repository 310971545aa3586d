-- A session of `months` in the code: what it holds in each state of the machine.
use Rattle.std.specs.Prelude.{ℕ, suc, ◌≡◌, Bool, true, false, cond, List, ltb}
use Rattle.tables.specs.Tables.{tab}
use Rattle.sheet.specs.Limits.{entries}
use Rattle.sheet.specs.Record.{sheet_of}
use Rattle.machine.specs.Programs as machine
use Rattle.bookings.specs.Bookings.{History, begun, record_now, month_total, last_date}
use Rattle.bookings.specs.Months.{Kept}
use Rattle.year.specs.Prints.{State, first, named, going, over, months}
use Rattle.year.specs.declared.booked.Booked.{Booked}
use Rattle.year.specs.declared.stages.Year.{Year}
use Rattle.year.specs.declared.stages.Year.TheVariants.{Naming, Opening, Going, Over}

-- the totals of the months that are over, and 0 for the others
abbrev pub closed_before : ℕ → (ℕ → ℕ) → List ℕ
closed_before month totals = tab 12 (λ i. cond (ltb (suc i) month) (totals (suc i)) 0)

-- what is booked with a history, and whether a dated line has come
abbrev pub booked_with : Bool → History → Booked
booked_with dated h = record {
  dated = dated;
  sheet = sheet_of entries (record_now h);
  last = last_date h;
  closed = closed_before (last_date h).month (month_total h);
}

abbrev pub year_of : State → Year
year_of first = Naming
year_of (named y) = Opening y
year_of (going b h) = Going (booked_with b h)
year_of (over h) = Over (booked_with false h)

-- a state that a session can be in: as long as no dated line has come, no month is over
abbrev pub Sensible : State → Type 0
Sensible first = Kept (begun 0 1)
Sensible (named y) = Kept (begun y 1)
Sensible (going b h) = Kept h × (b ≡ false → (last_date h).month ≡ 1)
Sensible (over h) = Kept h

abbrev pub is_over : Year → Bool
is_over Naming = false
is_over (Opening y) = false
is_over (Going booked) = false
is_over (Over booked) = true

-- the program `months`
abbrev pub kind : machine.Kind Year
kind = record { machine = months; held = year_of; Can = Sensible; over = is_over }

-- the session stands in this state
abbrev pub In : Year → State → Type 0
In y s = machine.In kind y s

-- where a line leads, and how much was written
pub record Stepped : Type 0 where
  pub year : Year
  pub wrote : ℕ
