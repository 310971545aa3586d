-- How a date is written: YYYY-MM-DD, each part with all its digits. A text is a list of bytes; 48 is `0`.
use Rattle.std.specs.Prelude.{ℕ, ◌^◌, ◌<◌, ◌≡◌, List, ◌++◌, length, Option, Some, None}
use Rattle.ground.specs.Texts.{ascii}
use Rattle.ground.specs.Figures.{figures}
use Rattle.dates.specs.declared.date.Date.{Date}

-- the last k digits of a number, with zeros in front where it has fewer
abbrev pub digits : ℕ → ℕ → List ℕ
digits k n = figures 10 k n

-- a part is a number of k digits
pub record Writes (k : ℕ) (part : List ℕ) (n : ℕ) : Type 0 where
  pub small : n < 10 ^ k
  pub text : part ≡ digits k n

unfoldable pub date_text : Date → List ℕ
date_text d = digits 4 d.year ++ ascii "-" ++ digits 2 d.month ++ ascii "-" ++ digits 2 d.day

-- a line is a date, one space, and the rest; whether there is such a day is not asked here
pub record DatedBy (line : List ℕ) (d : Date) (rest : List ℕ) : Type 0 where
  pub year : d.year < 10 ^ 4
  pub month : d.month < 10 ^ 2
  pub day : d.day < 10 ^ 2
  pub text : line ≡ date_text d ++ ascii " " ++ rest

-- what the functions of the reader tell

abbrev pub Numbered : List ℕ → Option ℕ → Type 0
Numbered part (Some n) = Writes (length part) part n
Numbered part None = (n : ℕ) → Writes (length part) part n → ⊥

abbrev pub DatingOf : List ℕ → Option Date → Type 0
DatingOf line (Some d) = (rest : List ℕ) × DatedBy line d rest
DatingOf line None = (d : Date) (rest : List ℕ) → DatedBy line d rest → ⊥
