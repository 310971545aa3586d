-- Days against the last day of a month: what is earlier is told by the first of year, month and day that differs.
use Prim.Native.Nat.{ℕ, ◌≤◌, ◌<◌}
use mathlib.Core.Path.{◌≡◌, refl, sym, ◌∙◌}
use mathlib.Core.Bool.{Bool, true, false, ◌&&◌, ◌||◌}
use native.Mathlib.Omega.{arith}
use lib.Dec.{leb, ltb}
use borrow.Author.Tests.{leb-true, lt-ltb, le-ltb, eq-eqb, ne_eqb}
use Rattle.ground.proofs.Cases.{clash, below_or, same_or, and_left, and_right}
use Rattle.dates.specs.declared.date.Date.{Date}
use Rattle.dates.specs.Gregorian.{days_in, is_day, earlier, last_day}

-- which of two days is earlier

or-false : (t : Bool) → (t || false) ≡ t
or-false true = refl
or-false false = refl

module _ (a b : Date) where
  pub earlier_year : (a.year ≡ b.year → ⊥) → earlier a b ≡ ltb a.year b.year
  unfolding earlier
  earlier_year n = rw (ne_eqb a.year b.year n) (or-false (ltb a.year b.year))

  pub earlier_month : a.year ≡ b.year → (a.month ≡ b.month → ⊥) → earlier a b ≡ ltb a.month b.month
  unfolding earlier
  earlier_month h n = rw (le-ltb a.year b.year (omega arith), eq-eqb a.year b.year h, ne_eqb a.month b.month n) (or-false (ltb a.month b.month))

  pub earlier_day : a.year ≡ b.year → a.month ≡ b.month → earlier a b ≡ ltb a.day b.day
  unfolding earlier
  earlier_day h k = rw (le-ltb a.year b.year (omega arith), eq-eqb a.year b.year h, le-ltb a.month b.month (omega arith), eq-eqb a.month b.month k)

-- a day that there is, is in one of twelve months and at most the month's last
pub day_month : (d : Date) → is_day d ≡ true → (1 ≤ d.month) × (d.month ≤ 12) × (d.day ≤ days_in d.year d.month)
unfolding is_day
day_month d e =
    let months = and_left (leb 1 d.month && leb d.month 12) _ e in
    let days = and_right (leb 1 d.month && leb d.month 12) _ e in (
      leb-true 1 d.month (and_left (leb 1 d.month) _ months),
      leb-true d.month 12 (and_right (leb 1 d.month) _ months),
      leb-true d.day (days_in d.year d.month) (and_right (leb 1 d.day) _ days),
    )

-- in an ordered sequence of days of one year the months do not fall
pub month_kept : (d e : Date) → earlier d e ≡ false → d.year ≡ e.year → e.month ≤ d.month
month_kept d e n h =
    below_or d.month e.month
    (λ l. clash (earlier_month d e h (λ w. omega arith) ∙ lt-ltb d.month e.month l) n)
    (λ l. l)

module _ (d : Date) (y m : ℕ) (h : d.year ≡ y) where
  -- a day of a month up to m is not behind the last day of m
  pub not_past : d.month ≤ m → d.day ≤ days_in y d.month → earlier (last_day y m) d ≡ false
  not_past k l =
      same_or m d.month
      (λ e. earlier_day (last_day y m) d (sym h) e ∙ le-ltb (days_in y m) d.day (rw e l))
      (λ e. earlier_month (last_day y m) d (sym h) e ∙ le-ltb m d.month k)

  -- a day of a later month is
  pub past : m < d.month → earlier (last_day y m) d ≡ true
  past k = earlier_month (last_day y m) d (sym h) (λ w. omega arith) ∙ lt-ltb m d.month k
