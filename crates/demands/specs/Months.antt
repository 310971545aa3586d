-- THE YEAR ON ONE PAGE (02, Q-2). What a session of `months` prints is defined in year/specs, and its history in bookings/specs; here stands what was asked
-- of it, a field for each sentence.
use Rattle.std.specs.Prelude.{ℕ, ◌≤◌, ◌≡◌, Bool, true, false, length, replicate}
use mathlib.Core.List.{List, [], ◌++◌, flatten}
use Rattle.ground.specs.Texts.{ascii}
use Rattle.dates.specs.Gregorian.{last_day}
use Rattle.dates.specs.Known.{Known}
use Rattle.dates.specs.declared.date.Date.{Date}
use Rattle.sheet.specs.Limits.{most_marks, entries}
use Rattle.sheet.specs.Answers.{open_of}
use Rattle.sheet.specs.declared.Sheet.{Sheet}
use Rattle.sheet.specs.Told.{Value}
use Rattle.changes.specs.declared.Call.{Call}
use Rattle.totals.specs.Totals.{Totalled}
use Rattle.histories.specs.Histories.{number_of, after_all, numbers_of, sheet_after, number_given}
use Rattle.machine.specs.Rows.{Row}
use Rattle.machine.specs.Pieces.{in-line, start, Takes, InPieces}
use Rattle.machine.specs.Heard.{Hears}
use Rattle.desk.specs.Heard as desk
use Rattle.bookings.specs.Bookings.{Booking, on, History, calls, any, up_to, record_now, month_total, last_date, date_ok, booking_number, after_booking}
use Rattle.year.specs.Prints.{page, State, first, named, going, Step, months, Prints}
use Rattle.year.specs.Heard.{IsPage, in_line1, in_later_line, RowsLast, EndsWith}

-- a session has taken these bytes and has this history then: the calls that it accepted, with their dates
pub record HasBooked (input : List ℕ) (h : History) : Type 0 where
  pub line : ℕ
  pub dated : Bool
  pub begun : List ℕ
  pub said : List ℕ
  pub takes : Takes months (start months) input (in-line line (going dated h) begun) said

-- the accepted calls whose date is not after the month's last day, the undated ones among them
abbrev pub calls_up_to : History → ℕ → List Call
calls_up_to h m = calls (up_to (last_day h.year m)) h.bookings

abbrev pub opened_sheet : History → Sheet
opened_sheet h = (open_of most_marks entries h.marks).sheet

-- these calls, made one after another on an opened sheet: each is accepted, and `total`, which answers the seconds held in the class (demand 2), answers
-- the month's row
pub record MonthRow (h : History) (m : ℕ) : Type 0 where
  pub opens : (open_of most_marks entries h.marks).number ≡ 0
  pub accepted : numbers_of number_given sheet_after (opened_sheet h) (calls_up_to h m) ≡ replicate (length (calls_up_to h m)) 0
  pub total : {v : Value} → Totalled most_marks (after_all sheet_after (opened_sheet h) (calls_up_to h m)) v → v ≡ record { number = 0; value = month_total h m }

pub record Months : Type 0 where
  -- each input has exactly one output, in whatever pieces it comes
  pub one : (input : List ℕ) → (output : List ℕ) × Prints input output × ((other : List ℕ) → Prints input other → other ≡ output)
  pub pieces : {cuts : List (List ℕ)} {output : List ℕ} → InPieces months (start months) cuts output → Prints (flatten cuts) output
  -- the rows come when the input stops, behind all refusals, and nothing comes behind them
  pub rows_last : (input : List ℕ) {output : List ℕ} → Prints input output → RowsLast 1 output
  -- they are those of the history that the session has when the input stops, at its end or by `end`
  pub at_stop : {input output : List ℕ} {h : History} → HasBooked input h → Prints input output → EndsWith (page h) output
  pub at_end : {input output : List ℕ} {h : History} (rest : List ℕ) (b : HasBooked input h) → b.begun ≡ [] → Prints (input ++ (ascii "end\n" ++ rest)) output
      → EndsWith (page h) output
  -- a row is the class total that demand 2 gives for the history up to the month's last day
  pub row : {input : List ℕ} {h : History} → HasBooked input h → (m : ℕ) → 1 ≤ m → MonthRow h m
  -- and December's is that of the whole history
  pub december : {input : List ℕ} {h : History} → HasBooked input h → calls_up_to h 12 ≡ calls any h.bookings
  -- 11 comes for the date alone, before the call's own answers; a refused line books nothing
  pub eleven : (h : History) (d : Date) (c : Call) → date_ok h.year (last_date h) d ≡ false → booking_number h (on d c) ≡ 11
  pub not_eleven : (h : History) (d : Date) (c : Call) → date_ok h.year (last_date h) d ≡ true → booking_number h (on d c) ≡ number_of (record_now h) c
  pub refused : (h : History) (x : Booking) → (booking_number h x ≡ 0 → ⊥) → after_booking h x ≡ h
  -- by which numbers line 1, line 2 and, in a session, a later line can be refused
  pub heard_1 : {k : ℕ} {row : Row} {t : State} {text : List ℕ} → Step k first row t text → Hears IsPage k in_line1 text
  pub heard_2 : {k y : ℕ} {row : Row} {t : State} {text : List ℕ} → Step k (named y) row t text → Hears IsPage k desk.in_line1 text
  pub heard : {input : List ℕ} {k : ℕ} {b : Bool} {h : History} {row : Row} {t : State} {text : List ℕ} → HasBooked input h → Step k (going b h) row t text
      → Hears IsPage k in_later_line text
  -- the calendar: what is known of leap years and of the days of months and years
  pub calendar : Known
