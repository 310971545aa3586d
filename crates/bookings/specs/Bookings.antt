-- THE HISTORY OF A YEAR: an opened sheet and the accepted calls since, in the order in which they came, each with its date or without one.
use Rattle.std.specs.Prelude.{ℕ, Bool, true, not, cond, ◌&&◌, List, [], ◌∷◌, ◌++◌, eqb}
use Rattle.dates.specs.Gregorian.{is_day, earlier, last_day}
use Rattle.dates.specs.declared.date.Date.{Date}
use Rattle.sheet.specs.Record.{Record, opened}
use Rattle.changes.specs.declared.Call.{Call}
use Rattle.totals.specs.Totals.{total_of}
use Rattle.histories.specs.Histories.{number_of, accepted, after_all}

-- a call of the opening stock, or one on a day
pub data Booking : Type 0 where
  undated : Call → Booking
  on : Date → Call → Booking

pub record History : Type 0 where
  pub year : ℕ
  pub marks : ℕ
  pub bookings : List Booking

abbrev pub begun : (year marks : ℕ) → History
begun y m = record { year = y; marks = m; bookings = [] }

-- what was booked by some day

abbrev pub call_of : Booking → Call
call_of (undated c) = c
call_of (on d c) = c

-- the calls of those bookings that pass a test
unfoldable pub calls : (Booking → Bool) → List Booking → List Call
calls p [] = []
calls p (x ∷ xs) = cond (p x) (call_of x ∷ calls p xs) (calls p xs)

abbrev pub any : Booking → Bool
any x = true

-- not after a day: an undated one counts on every day
abbrev pub up_to : Date → Booking → Bool
up_to d (undated c) = true
up_to d (on e c) = not (earlier d e)

-- what such accepted calls come to
abbrev pub record_by : (Booking → Bool) → History → Record
record_by p h = after_all accepted (opened h.marks) (calls p h.bookings)

abbrev pub record_now : History → Record
record_now h = record_by any h

-- A MONTH'S TOTAL: the class total for the history up to the month's last day
abbrev pub month_total : History → ℕ → ℕ
month_total h m = total_of (record_by (up_to (last_day h.year m)) h)

-- a further booking

abbrev pub last_of : Date → List Booking → Date
last_of d [] = d
last_of d (undated c ∷ xs) = last_of d xs
last_of d (on e c ∷ xs) = last_of e xs

-- the date of the last dated booking; before there is one the first of January, than which no day of the year is earlier
abbrev pub last_date : History → Date
last_date h = last_of (record { year = h.year; month = 1; day = 1 }) h.bookings

-- a day that there is, of this year, and not earlier than the last one
abbrev pub date_ok : (year : ℕ) (last d : Date) → Bool
date_ok y last d = is_day d && (eqb d.year y && not (earlier d last))

-- the number of a booking: 11 for its date, and then the call's own
abbrev pub booking_number : History → Booking → ℕ
booking_number h (undated c) = number_of (record_now h) c
booking_number h (on d c) = cond (date_ok h.year (last_date h) d) (number_of (record_now h) c) 11

abbrev pub with_booking : History → Booking → History
with_booking h x = record { year = h.year; marks = h.marks; bookings = h.bookings ++ x ∷ [] }

-- and the history after it: a refused one leaves it
abbrev pub after_booking : History → Booking → History
after_booking h x = cond (eqb (booking_number h x) 0) (with_booking h x) h
