-- A month's total is fixed when a later month begins: what is booked then is after the month's last day (`month_before`), and until then all that is
-- booked is not after it (`month_now`).
use Prim.Native.Nat.{ℕ, ◌≤◌, ◌<◌}
use mathlib.Core.Path.{◌≡◌, refl, sym, ap, ◌∙◌, subst}
use mathlib.Core.Bool.{Bool, true, false, not}
use mathlib.Core.List.{List, [], ◌∷◌, ◌++◌}
use native.Mathlib.Omega.{arith}
use lib.Dec.{eqb}
use borrow.Author.Tests.{eqb-true}
use Rattle.ground.proofs.Cases.{if, and_left, and_right, below_or}
use Rattle.dates.specs.Gregorian.{days_in, is_day, earlier, last_day}
use Rattle.dates.specs.declared.date.Date.{Date}
use Rattle.dates.proofs.Calendar.{day_month, not_past, past, month_kept}
use Rattle.sheet.specs.Record.{opened}
use Rattle.changes.specs.declared.Call.{Call}
use Rattle.totals.specs.Totals.{total_of}
use Rattle.histories.specs.Histories.{Good, number_of, accepted, after_all}
use Rattle.bookings.specs.Bookings.{Booking, undated, on, History, begun, call_of, calls, any, up_to, record_now, month_total, last_of, last_date, date_ok, with_booking}
use Rattle.bookings.specs.Months.{Accepts, none, Kept}
use Rattle.bookings.proofs.Sequences.{after_more, accepts_more, accepts_good}

-- one booking more at the end

module _ (p : Booking → Bool) (x : Booking) where
  pub calls_in : (xs : List Booking) → p x ≡ true → calls p (xs ++ x ∷ []) ≡ calls p xs ++ call_of x ∷ []
  unfolding calls
  calls_in [] e = rw e
  calls_in (y ∷ xs) e =
      if (p y)
      (λ (q : p y ≡ true). rw q (ap (λ (l : List Call). call_of y ∷ l) (calls_in xs e)))
      (λ (q : p y ≡ false). rw q (calls_in xs e))

  pub calls_out : (xs : List Booking) → p x ≡ false → calls p (xs ++ x ∷ []) ≡ calls p xs
  unfolding calls
  calls_out [] e = rw e
  calls_out (y ∷ xs) e =
      if (p y)
      (λ (q : p y ≡ true). rw q (ap (λ (l : List Call). call_of y ∷ l) (calls_out xs e)))
      (λ (q : p y ≡ false). rw q (calls_out xs e))

last_on : (d e : Date) (c : Call) (xs : List Booking) → last_of d (xs ++ on e c ∷ []) ≡ e
last_on d e c [] = refl
last_on d e c (undated k ∷ xs) = last_on d e c xs
last_on d e c (on f k ∷ xs) = last_on f e c xs

pub last_undated : (d : Date) (c : Call) (xs : List Booking) → last_of d (xs ++ undated c ∷ []) ≡ last_of d xs
last_undated d c [] = refl
last_undated d c (undated k ∷ xs) = last_undated d c xs
last_undated d c (on f k ∷ xs) = last_undated f c xs

pub record_more : (h : History) (x : Booking) → record_now (with_booking h x) ≡ accepted (record_now h) (call_of x)
record_more h x =
    ap (after_all accepted (opened h.marks)) (calls_in any x h.bookings refl) ∙ after_more (opened h.marks) (calls any h.bookings) (call_of x)

-- a date that is let through
module _ (y : ℕ) (last d : Date) (ok : date_ok y last d ≡ true) where
  pub ok_day : is_day d ≡ true
  ok_day = and_left (is_day d) _ ok

  pub ok_year : d.year ≡ y
  ok_year = eqb-true d.year y (and_left (eqb d.year y) _ (and_right (is_day d) _ ok))

  pub ok_month : last.year ≡ y → last.month ≤ d.month
  ok_month e =
      month_kept d last
      (if (earlier d last) (λ (q : earlier d last ≡ true). absurd (no q (and_right (eqb d.year y) _ (and_right (is_day d) _ ok)))) (λ q. q))
      (ok_year ∙ sym e)
    where
      no : earlier d last ≡ true → not (earlier d last) ≡ true → ⊥
      no q w = let z : ◌≡◌ {A = Bool} false true = sym (ap not q) ∙ w in let k : ◌≡◌ {A = ℕ} 0 1 = cc in omega arith

-- what is booked in a year

module _ {h : History} (kept : Kept h) where
  pub accepts_now : Accepts (opened h.marks) (calls any h.bookings)
  accepts_now =
      let m = (last_date h).month in
      subst (Accepts (opened h.marks)) (kept.whole m (omega arith)) (kept.each m kept.month.0)

  pub kept_good : Good (record_now h)
  kept_good = accepts_good kept.good accepts_now

  -- until a later month begins the month's total is the class total
  pub month_now : (m : ℕ) → (last_date h).month ≤ m → month_total h m ≡ total_of (record_now h)
  month_now m l = ap (λ (ks : List Call). total_of (after_all accepted (opened h.marks) ks)) (kept.whole m l)

  -- the opening stock counts in every month
  pub kept_undated : (c : Call) → (last_date h).month ≡ 1 → number_of (record_now h) c ≡ 0 → Kept (with_booking h (undated c))
  kept_undated c e z = record {
    good = kept.good;
    year = ap (λ (d : Date). d.year) same ∙ kept.year;
    month = subst (λ (d : Date). (1 ≤ d.month) × (d.month ≤ 12)) (sym same) kept.month;
    whole = λ m l. whole m (subst (λ (d : Date). d.month ≤ m) same l);
    each = λ m l. subst (Accepts (opened h.marks)) (sym (whole m (omega arith) ∙ all)) (accepts_more c accepts_now z);
  }
    where
      same : last_date (with_booking h (undated c)) ≡ last_date h
      same = last_undated (record { year = h.year; month = 1; day = 1 }) c h.bookings

      all : calls any (h.bookings ++ undated c ∷ []) ≡ calls any h.bookings ++ c ∷ []
      all = calls_in any (undated c) h.bookings refl

      whole : (m : ℕ) → (last_date h).month ≤ m → calls (up_to (last_day h.year m)) (h.bookings ++ undated c ∷ []) ≡ calls any (h.bookings ++ undated c ∷ [])
      whole m l =
          calls_in (up_to (last_day h.year m)) (undated c) h.bookings refl
          ∙ ap (λ (ks : List Call). ks ++ c ∷ []) (kept.whole m l)
          ∙ sym all

  -- a call on a day counts from its month on
  module _ (d : Date) (c : Call) (ok : date_ok h.year (last_date h) d ≡ true) where
    before_it : (m : ℕ) → m < d.month → calls (up_to (last_day h.year m)) (h.bookings ++ on d c ∷ []) ≡ calls (up_to (last_day h.year m)) h.bookings
    before_it m l =
        calls_out (up_to (last_day h.year m)) (on d c) h.bookings (ap not (past d h.year m (ok_year h.year (last_date h) d ok) l))

    from_it : (m : ℕ) → d.month ≤ m → calls (up_to (last_day h.year m)) (h.bookings ++ on d c ∷ []) ≡ calls any h.bookings ++ c ∷ []
    from_it m l =
        calls_in (up_to (last_day h.year m)) (on d c) h.bookings
        (ap not (not_past d h.year m (ok_year h.year (last_date h) d ok) l (in-month (day_month d (ok_day h.year (last_date h) d ok)).2)))
        ∙ ap (λ (ks : List Call). ks ++ c ∷ []) (kept.whole m (omega (arith, ok_month h.year (last_date h) d ok kept.year)))
      where
        in-month : d.day ≤ days_in d.year d.month → d.day ≤ days_in h.year d.month
        in-month = subst (λ (y : ℕ). d.day ≤ days_in y d.month) (ok_year h.year (last_date h) d ok)

    -- months before it keep their totals
    pub month_before : (m : ℕ) → m < d.month → month_total (with_booking h (on d c)) m ≡ month_total h m
    month_before m l = ap (λ (ks : List Call). total_of (after_all accepted (opened h.marks) ks)) (before_it m l)

    pub last_now : last_date (with_booking h (on d c)) ≡ d
    last_now = last_on (record { year = h.year; month = 1; day = 1 }) d c h.bookings

    pub kept_on : number_of (record_now h) c ≡ 0 → Kept (with_booking h (on d c))
    kept_on z = record {
      good = kept.good;
      year = ap (λ (e : Date). e.year) last_now ∙ ok_year h.year (last_date h) d ok;
      month = subst (λ (e : Date). (1 ≤ e.month) × (e.month ≤ 12)) (sym last_now)
          (let q = day_month d (ok_day h.year (last_date h) d ok) in (q.0, q.1));
      whole = λ m l. from_it m (subst (λ (e : Date). e.month ≤ m) last_now l) ∙ sym (calls_in any (on d c) h.bookings refl);
      each = λ m l. below_or m d.month
          (λ b. subst (Accepts (opened h.marks)) (sym (before_it m b)) (kept.each m l))
          (λ b. subst (Accepts (opened h.marks)) (sym (from_it m b)) (accepts_more c accepts_now z));
    }

pub kept-begun : (y m : ℕ) → Good (opened m) → Kept (begun y m)
unfolding calls
kept-begun y m good = record {
  good = good;
  year = refl;
  month = (omega arith, omega arith);
  whole = λ n l. refl;
  each = λ n l. none;
}
