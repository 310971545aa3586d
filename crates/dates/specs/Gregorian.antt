-- GREGORIAN DATES: leap years, the days of a month, which days there are, and which of two is earlier.
use Rattle.std.specs.Prelude.{ℕ, ◌%◌, Bool, not, cond, ◌&&◌, ◌||◌, eqb, leb, ltb}
use Rattle.dates.specs.declared.date.Date.{Date}

-- every fourth year, of the hundreds every fourth
unfoldable pub leap : ℕ → Bool
leap y = (eqb (y % 4) 0 && not (eqb (y % 100) 0)) || eqb (y % 400) 0

-- the days of a month: 28 or 29 in February, 30 in April, June, September and November, else 31
unfoldable pub days_in : (year month : ℕ) → ℕ
days_in y m = cond (eqb m 2) (cond (leap y) 29 28) (cond (eqb m 4 || eqb m 6 || eqb m 9 || eqb m 11) 30 31)

-- there is such a day
unfoldable pub is_day : Date → Bool
is_day d = (leb 1 d.month && leb d.month 12) && (leb 1 d.day && leb d.day (days_in d.year d.month))

-- by the year; in a year by the month; in a month by the day
unfoldable pub earlier : Date → Date → Bool
earlier a b =
    ltb a.year b.year
    || (eqb a.year b.year && (ltb a.month b.month || (eqb a.month b.month && ltb a.day b.day)))

-- the last day of a month
abbrev pub last_day : (year month : ℕ) → Date
last_day y m = record { year = y; month = m; day = days_in y m }
