-- What the functions on boxes tell each other: a box taken apart, and the boxes through a combination.
use Rattle.std.specs.Prelude.{ℕ, ◌+◌, ◌*◌, ◌-◌, ◌^◌, ◌<◌, ◌≤◌, ◌≡◌, Bool, List, eqb, get_or}
use Rattle.std.specs.Int.Bits.{bit_and}
use Rattle.boxes.specs.Boxes.{contains, through}
use Rattle.boxes.specs.declared.Digits.{Digits}

-- c has the marks `on`, the marks `free` aside: c & !free == on
abbrev pub masked : ℕ → ℕ → ℕ → Bool
masked free on c = eqb (bit_and c ((2 ^ 64 - 1) - free)) on

-- the masks decide, for every number c, whether b contains it
abbrev pub Apart : ℕ → ℕ → Digits → Type 0
Apart m b d = (c : ℕ) → c < 2 ^ 64 → masked d.free d.on c ≡ contains m b c

-- the table holds, for each set of free marks, the box through c that has them
abbrev pub AllThrough : ℕ → ℕ → List ℕ → Type 0
AllThrough m c xs = (t : ℕ) → t < 2 ^ m → get_or xs t 0 ≡ through m c t

-- of 256 entries the first n have room behind them, and bear so much more
pub record Doubles (n more : ℕ) (xs : List ℕ) : Type 0 where
  pub space : n * 2 ≤ 256
  pub bear : (t : ℕ) → t < n → get_or xs t 0 + more < 2 ^ 16

-- they stand behind themselves, each by so much more
pub record Doubled (n more : ℕ) (xs ys : List ℕ) : Type 0 where
  pub first : (t : ℕ) → t < n → get_or ys t 0 ≡ get_or xs t 0
  pub second : (t : ℕ) → t < n → get_or ys (n + t) 0 ≡ get_or xs t 0 + more
