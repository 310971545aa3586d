-- What the functions of a year tell each other.
use Rattle.std.specs.Prelude.{ℕ, suc, ◌+◌, ◌-◌, ◌≤◌, ◌≡◌, Bool, true, false, cond, ◌&&◌, Result, List, leb, ltb, get_or, replicate}
use Rattle.ground.specs.Areas.{Wrote}
use Rattle.refusals.specs.declared.Refusal.{Refusal}
use Rattle.tables.specs.Tables.{tab}
use Rattle.sheet.specs.declared.Sheet.{Sheet}
use Rattle.changes.specs.declared.Call.{Call}
use Rattle.dates.specs.declared.date.Date.{Date}
use Rattle.machine.specs.Rows.{Row}
use Rattle.machine.specs.Steps.{SteppedBy}
use Rattle.bookings.specs.Bookings.{undated, on, History, month_total, booking_number, after_booking}
use Rattle.desk.specs.Parts.{answer_number}
use Rattle.year.specs.Prints.{State, first, named, going, months, page}
use Rattle.year.specs.States.{closed_before, booked_with, year_of, Sensible, Stepped}
use Rattle.year.specs.declared.booked.Booked.{Booked}
use Rattle.year.specs.declared.stages.Year.{Year}

-- a year of which nothing is booked
abbrev pub beginning : ℕ → Sheet → Booked
beginning y sheet = record { dated = false; sheet = sheet; last = record { year = y; month = 1; day = 1 }; closed = replicate 12 0 }

-- entries with the same total for the months from the first of these up to, and not with, the second
abbrev pub closed_with : List ℕ → ℕ → ℕ → ℕ → List ℕ
closed_with totals from to total = tab 12 (λ i. cond (leb from (suc i) && ltb (suc i) to) total (get_or totals i 0))

-- the entry of a month, counted from 1
abbrev pub month_in : List ℕ → ℕ → ℕ
month_in totals m = get_or totals (m - 1) 0

-- room for a row, and for twelve
abbrev pub row_room : ℕ
row_room = 32

abbrev pub rows_room : ℕ
rows_room = 384

-- this history is booked
pub record Holds (y : Booked) (b : Bool) (h : History) : Type 0 where
  pub is : y ≡ booked_with b h
  pub can : Sensible (going b h)

-- it stands behind line 2, with some history
abbrev pub GoesOn : Booked → Type 0
GoesOn y = (b : Bool) × (h : History) × Holds y b h

-- with whatever history it stands there: the totals of the months before this one
abbrev pub TotalsTo : Booked → ℕ → List ℕ → Type 0
TotalsTo y month totals = (b : Bool) (h : History) → Holds y b h → totals ≡ closed_before month (month_total h)

-- the rows were laid in the area
abbrev pub PageLaid : Booked → List ℕ → ℕ → ℕ → List ℕ → Type 0
PageLaid y out at next later = (b : Bool) (h : History) → Holds y b h → (next ≤ at + rows_room) × Wrote out at (page h) next later

-- a call was answered by this number, and this history is booked behind it
pub record Books (answer : Result (Unit {0}) Refusal) (y : Booked) (number : ℕ) (b : Bool) (h : History) : Type 0 where
  pub told : answer_number answer ≡ number
  pub is : y ≡ booked_with b h

-- a call without a date is unreadable behind a dated line
abbrev pub BooksUndated : Booked → Call → Result (Unit {0}) Refusal → Booked → Type 0
BooksUndated old c answer now =
    ((h : History) → Holds old true h → Books answer now 10 true h)
    × ((h : History) → Holds old false h → Books answer now (booking_number h (undated c)) false (after_booking h (undated c)))

abbrev pub BooksOnDay : Booked → Date → Call → Result (Unit {0}) Refusal → Booked → Type 0
BooksOnDay old d c answer now = (b : Bool) (h : History) → Holds old b h → Books answer now (booking_number h (on d c)) true (after_booking h (on d c))

abbrev pub SteppedTo : ℕ → State → Row → List ℕ → Stepped → List ℕ → Type 0
SteppedTo k s row out r later = SteppedBy months year_of k s row out r.year r.wrote later

-- line k was taken as line 1, as line 2, and as a later line
abbrev pub YearTaken : ℕ → Row → List ℕ → Year → ℕ → List ℕ → Type 0
YearTaken k row out after wrote later = SteppedBy months year_of k first row out after wrote later

abbrev pub MarksTaken : ℕ → ℕ → Row → List ℕ → Year → ℕ → List ℕ → Type 0
MarksTaken y k row out after wrote later = SteppedBy months year_of k (named y) row out after wrote later

abbrev pub LaterTaken : ℕ → Bool → History → Row → List ℕ → Year → ℕ → List ℕ → Type 0
LaterTaken k b h row out after wrote later = SteppedBy months year_of k (going b h) row out after wrote later
