-- A booking that is accepted is added, a refused one leaves the history; and so a history that a year can have stays one.
use mathlib.Core.Path.{◌≡◌, sym, ap, ◌∙◌, subst}
use mathlib.Core.Bool.{Bool, true, false, cond}
use native.Mathlib.Omega.{arith}
use borrow.Author.Tests.{eq-eqb, ne_eqb}
use Rattle.ground.proofs.Cases.{if, same_or}
use Rattle.dates.specs.declared.date.Date.{Date}
use Rattle.sheet.specs.Record.{Record}
use Rattle.changes.specs.declared.Call.{Call}
use Rattle.histories.specs.Histories.{number_of, accepted, after}
use Rattle.bookings.specs.Bookings.{Booking, undated, on, History, record_now, last_date, date_ok, booking_number, with_booking, after_booking}
use Rattle.bookings.specs.Months.{Kept}
use Rattle.bookings.proofs.Bookings.{last_undated, record_more, kept_undated, kept_on}

module _ (h : History) (x : Booking) where
  pub booked : booking_number h x ≡ 0 → after_booking h x ≡ with_booking h x
  booked z = ap (λ (t : Bool). cond t (with_booking h x) h) (eq-eqb (booking_number h x) 0 z)

  pub not_booked : (booking_number h x ≡ 0 → ⊥) → after_booking h x ≡ h
  not_booked n = ap (λ (t : Bool). cond t (with_booking h x) h) (ne_eqb (booking_number h x) 0 n)

module _ (h : History) (d : Date) (c : Call) where
  -- 11 comes for the date alone; else the number is the call's
  pub date_good : date_ok h.year (last_date h) d ≡ true → booking_number h (on d c) ≡ number_of (record_now h) c
  date_good e = rw e

  pub date_bad : date_ok h.year (last_date h) d ≡ false → booking_number h (on d c) ≡ 11
  date_bad e = rw e

  pub on_ok : booking_number h (on d c) ≡ 0 → (date_ok h.year (last_date h) d ≡ true) × (number_of (record_now h) c ≡ 0)
  on_ok z =
      if (date_ok h.year (last_date h) d)
      (λ e. (e, sym (date_good e) ∙ z))
      (λ e. let q = sym (date_bad e) ∙ z in absurd (omega arith))

-- what an undated call comes to
pub record_undated : (h : History) (c : Call) → record_now (after_booking h (undated c)) ≡ after (record_now h) c
record_undated h c =
    same_or (number_of (record_now h) c) 0
    (λ z. ap record_now (booked h (undated c) z) ∙ record_more h (undated c)
    ∙ sym (ap (λ (t : Bool). cond t (accepted (record_now h) c) (record_now h)) (eq-eqb (number_of (record_now h) c) 0 z)))
    (λ n. ap record_now (not_booked h (undated c) n)
    ∙ sym (ap (λ (t : Bool). cond t (accepted (record_now h) c) (record_now h)) (ne_eqb (number_of (record_now h) c) 0 n)))

-- and one on a day: a refused one leaves the record
pub record_on : (h : History) (d : Date) (c : Call) (P : Record → Type 0) → P (record_now h) → P (after (record_now h) c) → P (record_now (after_booking h (on d c)))
record_on h d c P before then =
    same_or (booking_number h (on d c)) 0
    (λ z. subst P (sym (ap record_now (booked h (on d c) z) ∙ record_more h (on d c)
    ∙ sym (ap (λ (t : Bool). cond t (accepted (record_now h) c) (record_now h)) (eq-eqb (number_of (record_now h) c) 0 (on_ok h d c z).1)))) then)
    (λ n. subst (λ (x : History). P (record_now x)) (sym (not_booked h (on d c) n)) before)

pub last_after_undated : (h : History) (c : Call) → last_date (after_booking h (undated c)) ≡ last_date h
last_after_undated h c =
    same_or (number_of (record_now h) c) 0
    (λ z. ap last_date (booked h (undated c) z) ∙ last_undated (record { year = h.year; month = 1; day = 1 }) c h.bookings)
    (λ n. ap last_date (not_booked h (undated c) n))

module _ {h : History} (kept : Kept h) where
  pub kept_after_undated : (c : Call) → (last_date h).month ≡ 1 → Kept (after_booking h (undated c))
  kept_after_undated c e =
      same_or (number_of (record_now h) c) 0
      (λ z. subst Kept (sym (booked h (undated c) z)) (kept_undated kept c e z))
      (λ n. subst Kept (sym (not_booked h (undated c) n)) kept)

  pub kept_after_on : (d : Date) (c : Call) → Kept (after_booking h (on d c))
  kept_after_on d c =
      same_or (booking_number h (on d c)) 0
      (λ z. let q = on_ok h d c z in subst Kept (sym (booked h (on d c) z)) (kept_on kept d c q.0 q.1))
      (λ n. subst Kept (sym (not_booked h (on d c) n)) kept)
