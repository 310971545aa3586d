-- KNOWN YEARS: what everybody can look up, and that the months fill a year and the years the Gregorian round of 146,097 days.
use Rattle.std.specs.Prelude.{ℕ, zero, suc, ◌+◌, ◌≡◌, true, false, cond}
use Rattle.dates.specs.Gregorian.{leap, days_in, is_day}

-- the days of the first n months of a year
unfoldable pub month_days : (year n : ℕ) → ℕ
month_days y zero = 0
month_days y (suc n) = month_days y n + days_in y (suc n)

-- the days of n years from one on
unfoldable pub year_days : (year n : ℕ) → ℕ
year_days y zero = 0
year_days y (suc n) = year_days y n + month_days (y + n) 12

pub record Known : Type 0 where
  pub long : (leap 1600 ≡ true) × (leap 2000 ≡ true) × (leap 2024 ≡ true)
  pub short : (leap 1700 ≡ false) × (leap 1900 ≡ false) × (leap 2023 ≡ false) × (leap 2100 ≡ false)
  pub february : (days_in 2024 2 ≡ 29) × (days_in 1900 2 ≡ 28) × (days_in 2000 2 ≡ 29)
  pub last : (is_day (record { year = 2023; month = 12; day = 31 }) ≡ true) × (is_day (record { year = 2023; month = 2; day = 29 }) ≡ false)
  pub year : (y : ℕ) → month_days y 12 ≡ cond (leap y) 366 365
  pub round : (y : ℕ) → year_days y 400 ≡ 146097
