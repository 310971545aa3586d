-- How numbers, running times and boxes are written (01, 'Desk program' and 'Terms'). A text is a list of bytes; 48 is `0`, 58 the colon, 45 `-`.
use Rattle.std.specs.Prelude.{ℕ, zero, suc, ◌+◌, ◌/◌, ◌%◌, cond, List, [], ◌∷◌, ◌++◌, ltb, eqb}

-- a number in digits, of which there are at most k + 1
unfoldable pub decimal_in : ℕ → ℕ → List ℕ
decimal_in zero n = (48 + n) ∷ []
decimal_in (suc k) n = cond (ltb n 10) ((48 + n) ∷ []) (decimal_in k (n / 10) ++ (48 + n % 10) ∷ [])

-- a number in digits, without a leading zero except `0` itself
unfoldable pub decimal : ℕ → List ℕ
decimal n = decimal_in n n

-- seconds as minutes, a colon, two digits of seconds; minutes may exceed 599
unfoldable pub clock : ℕ → List ℕ
clock s = decimal (s / 60) ++ 58 ∷ (48 + s % 60 / 10) ∷ (48 + s % 60 % 10) ∷ []

-- a digit of a box: 0 off, 1 on, free as `-`
abbrev pub sign : ℕ → ℕ
sign d = cond (eqb d 2) 45 (48 + d)

-- the pattern of the box b over m marks, highest mark first
unfoldable pub pattern : ℕ → ℕ → List ℕ
pattern zero b = []
pattern (suc m) b = pattern m (b / 3) ++ sign (b % 3) ∷ []
