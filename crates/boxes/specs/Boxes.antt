-- Combinations and boxes over m marks (01, 'Terms'). A number is taken apart low mark first: c % 2 is mark 0 of the combination c and c / 2 has
-- the other marks, b % 3 is the digit of the box b at mark 0 and b / 3 has the other digits.
use Rattle.std.specs.Prelude.{ℕ, zero, suc, ◌+◌, ◌*◌, ◌-◌, ◌/◌, ◌%◌, ◌^◌, max, Bool, ◌&&◌, ◌||◌, eqb}
use Rattle.boxes.specs.Sums.{sum, only}

-- a digit (0 off, 1 on, 2 free) lets a mark (0 off, 1 on) through
unfoldable pub agrees : ℕ → ℕ → Bool
agrees d v = eqb d 2 || eqb d v

-- The box b contains the combination c: each mark agrees with its digit, and neither number has more than m of them.
-- So a number not below 3^m contains nothing, and a number not below 2^m is in no box.
unfoldable pub contains : ℕ → ℕ → ℕ → Bool
contains zero b c = eqb b 0 && eqb c 0
contains (suc m) b c = agrees (b % 3) (c % 2) && contains m (b / 3) (c / 2)

-- the sum of f over the combinations of the box b
unfoldable pub sum_in : ℕ → ℕ → (ℕ → ℕ) → ℕ
sum_in m b f = sum (2 ^ m) (λ c. only (contains m b c) (f c))

-- how many marks of b are free
unfoldable pub free_count : ℕ → ℕ → ℕ
free_count zero b = 0
free_count (suc m) b = free_count m (b / 3) + b % 3 / 2

-- the lowest combination of b: mark i is on exactly if digit i is 1
unfoldable pub lowest : ℕ → ℕ → ℕ
lowest zero b = 0
lowest (suc m) b = lowest m (b / 3) * 2 + b % 3 % 2

-- the box through the combination c with the free marks t: its digit is 2 at the marks of t, and c's own mark elsewhere
unfoldable pub through : ℕ → ℕ → ℕ → ℕ
through zero c t = 0
through (suc m) c t = through m (c / 2) (t / 2) * 3 + max (c % 2) (t % 2 * 2)

-- the box of the single combination c
abbrev pub single : ℕ → ℕ → ℕ
single m c = through m c 0

-- the box with every mark free
abbrev pub all_free : ℕ → ℕ
all_free m = 3 ^ m - 1
