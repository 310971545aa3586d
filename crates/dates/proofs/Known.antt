-- Any 400 years have as many days as any other: the year that comes in behind has those of the year that goes out in front.
use Prim.Native.Nat.{ℕ, zero, suc, ◌+◌, ◌%◌}
use mathlib.Core.Path.{◌≡◌, refl, sym, ap, ◌∙◌}
use mathlib.Core.Bool.{Bool, cond}
use native.Mathlib.Omega.{arith}
use Rattle.ground.proofs.Cases.{if}
use Rattle.dates.specs.Gregorian.{leap, days_in, is_day}
use Rattle.dates.specs.Known.{month_days, year_days, Known}

year_filled : (y : ℕ) → month_days y 12 ≡ cond (leap y) 366 365
unfolding month_days days_in
year_filled y = if (leap y) (λ e. rw e) (λ e. rw e)

leap_again : (y : ℕ) → leap (y + 400) ≡ leap y
unfolding leap
leap_again y =
    let a : (y + 400) % 4 ≡ y % 4 = omega arith in
    let b : (y + 400) % 100 ≡ y % 100 = omega arith in
    let c : (y + 400) % 400 ≡ y % 400 = omega arith in
    rw (a, b, c)

year_again : (y : ℕ) → month_days (y + 400) 12 ≡ month_days y 12
year_again y = year_filled (y + 400) ∙ ap (λ (t : Bool). cond t 366 365) (leap_again y) ∙ sym (year_filled y)

-- a year behind, and the first year taken off

year_on : (y n : ℕ) → year_days y (suc n) ≡ year_days y n + month_days (y + n) 12
unfolding year_days
year_on y n = refl

year_off : (y n : ℕ) → year_days (suc y) n + month_days y 12 ≡ year_days y (suc n)
unfolding year_days
year_off y zero = let e : y + 0 ≡ y = omega arith in rw e
year_off y (suc n) = let e : suc y + n ≡ y + suc n = omega arith in omega (arith, year_off y n, ap (λ (x : ℕ). month_days x 12) e)

first_round : year_days 0 400 ≡ 146097
unfolding year_days month_days days_in leap
first_round = refl

round : (y : ℕ) → year_days y 400 ≡ 146097
round zero = first_round
round (suc y) = omega (arith, round y, year_off y 400, year_on y 400, year_again y)

pub known : Known
unfolding leap days_in is_day
known = record {
  long = (refl, refl, refl);
  short = (refl, refl, refl, refl);
  february = (refl, refl, refl);
  last = (refl, refl);
  year = year_filled;
  round = round;
}
