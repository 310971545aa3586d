-- What a session of `months` prints (02, Q-2): which output bytes belong to which input bytes. It is told line by line: what a line leads to and prints
-- at once (`Step`), and what the end of the input prints (`Stop`); machine/specs/Machine puts these together. What is accepted is kept with its date
-- (bookings); a row is worked out from the accepted calls alone.
use Rattle.std.specs.Prelude.{Option, Some, None}
use Rattle.std.specs.Prelude.{ℕ, zero, suc, ◌≡◌, Bool, true, false, List, [], ◌++◌}
use Rattle.ground.specs.Texts.{ascii}
use Rattle.print.specs.Texts.{clock}
use Rattle.dates.specs.Texts.{digits}
use Rattle.dates.specs.declared.date.Date.{Date}
use Rattle.changes.specs.declared.Call.{Call}
use Rattle.machine.specs.Rows.{Row}
use Rattle.machine.specs.Machine.{Machine, Output, refusal, spoken}
use Rattle.times.specs.declared.Form.{Form}
use Rattle.lines.specs.declared.Order.TheVariants.{Make, End, Unreadable}
use Rattle.lines.specs.Words.{RowOpens}
use Rattle.year_lines.specs.declared.Slip.TheVariants.{Dated, Plain}
use Rattle.year_lines.specs.Slips.{RowNames, RowAsks}
use Rattle.desk.specs.Prints.{first_number, first_record}
use Rattle.bookings.specs.Bookings.{undated, on, History, begun, month_total, booking_number, after_booking}

-- texts

-- `01 12:30`: the month in two digits, and its total
unfoldable pub month_row : ℕ → ℕ → List ℕ
month_row m seconds = digits 2 m ++ ascii " " ++ clock seconds ++ ascii "\n"

-- the rows of the first n months
unfoldable pub month_rows : (ℕ → ℕ) → ℕ → List ℕ
month_rows totals zero = []
month_rows totals (suc n) = month_rows totals n ++ month_row (suc n) (totals (suc n))

-- twelve rows
abbrev pub page : History → List ℕ
page h = month_rows (month_total h) 12

-- lines

-- where a session stands: in front of line 1, behind it with the year, behind line 2 with the history (and whether a dated line has come), or over
pub data State : Type 0 where
  first : State
  named : ℕ → State
  going : (dated : Bool) → History → State
  over : History → State

-- the history that line 2 begins
abbrev pub opening : ℕ → Option ℕ → History
opening y f = begun y (first_record f).marks

-- line k: the state behind it, and what is printed at once
pub data Step (k : ℕ) : State → Row → State → List ℕ → Type 0 where
  -- line 1 names the year, and line 2 opens a sheet as line 1 of `holdings` does; if one is refused nothing else is printed
  names : {row : Row} {y : ℕ} → RowNames row (Some y) → Step k first row (named y) []
  nameless : {row : Row} → RowNames row None → Step k first row (over (begun 0 1)) (refusal k 10)
  opens : {row : Row} {y : ℕ} {f : Option ℕ} → RowOpens row f → first_number f ≡ 0 → Step k (named y) row (going false (opening y f)) []
  shut : {row : Row} {y : ℕ} {f : Option ℕ} → RowOpens row f → (first_number f ≡ 0 → ⊥) → Step k (named y) row (over (opening y f)) (refusal k (first_number f))
  -- a call without a date, as `holdings` takes it; behind a dated line it is unreadable
  stock : {row : Row} {h : History} {c : Call} {f : Option Form} → RowAsks h.marks row (Plain (Make c f))
      → Step k (going false h) row (going false (after_booking h (undated c))) (spoken k (booking_number h (undated c)))
  late : {row : Row} {h : History} {c : Call} {f : Option Form} → RowAsks h.marks row (Plain (Make c f)) → Step k (going true h) row (going true h) (refusal k 10)
  -- a call on a day
  dated : {row : Row} {b : Bool} {h : History} {d : Date} {c : Call} {f : Option Form} → RowAsks h.marks row (Dated d c f)
      → Step k (going b h) row (going true (after_booking h (on d c))) (spoken k (booking_number h (on d c)))
  -- a line that cannot be read, and `end`, behind which the rows are printed
  unread : {row : Row} {b : Bool} {h : History} → RowAsks h.marks row (Plain Unreadable) → Step k (going b h) row (going b h) (refusal k 10)
  ended : {row : Row} {b : Bool} {h : History} → RowAsks h.marks row (Plain End) → Step k (going b h) row (over h) (page h)
  -- nothing is printed when it is over
  silent : {row : Row} {h : History} → Step k (over h) row (over h) []

-- the end of the input: no `marks`, no rows
pub data Stop : State → List ℕ → Type 0 where
  empty : Stop first []
  unopened : {y : ℕ} → Stop (named y) []
  rows : {b : Bool} {h : History} → Stop (going b h) (page h)
  silent : {h : History} → Stop (over h) []

abbrev pub months : Machine
months = record { State = State; start = first; step = Step; stop = Stop }

-- THE OUTPUT OF AN INPUT
abbrev pub Prints : List ℕ → List ℕ → Type 0
Prints input output = Output months input output
