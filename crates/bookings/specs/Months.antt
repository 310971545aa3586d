-- What holds of every history that a year can have: its dates rise within the year, and each month's calls are accepted one after another.
use Rattle.std.specs.Prelude.{ℕ, ◌≤◌, ◌≡◌, List, [], ◌∷◌}
use Rattle.dates.specs.Gregorian.{last_day}
use Rattle.sheet.specs.Record.{Record, opened}
use Rattle.changes.specs.declared.Call.{Call}
use Rattle.histories.specs.Histories.{Good, number_of, accepted}
use Rattle.bookings.specs.Bookings.{History, calls, any, up_to, last_date}

-- each of the calls is accepted, one after another
pub data Accepts : Record → List Call → Type 0 where
  none : {r : Record} → Accepts r []
  call : {r : Record} {k : Call} {ks : List Call} → number_of r k ≡ 0 → Accepts (accepted r k) ks → Accepts r (k ∷ ks)

pub record Kept (h : History) : Type 0 where
  pub good : Good (opened h.marks)
  pub year : (last_date h).year ≡ h.year
  pub month : (1 ≤ (last_date h).month) × ((last_date h).month ≤ 12)
  -- nothing is booked after the month of the last date
  pub whole : (m : ℕ) → (last_date h).month ≤ m → calls (up_to (last_day h.year m)) h.bookings ≡ calls any h.bookings
  -- what is booked up to a month's end was accepted, and so was all
  pub each : (m : ℕ) → 1 ≤ m → Accepts (opened h.marks) (calls (up_to (last_day h.year m)) h.bookings)
