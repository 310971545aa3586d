-- Sums of a quantity: over the numbers below n, and over the members of a list.
use Rattle.std.specs.Prelude.{ℕ, zero, suc, ◌+◌, Bool, cond, List, [], ◌∷◌}

-- f 0 + .. + f (n - 1)
unfoldable pub sum : ℕ → (ℕ → ℕ) → ℕ
sum zero f = 0
sum (suc n) f = sum n f + f n

-- f of each member of the list, added up
unfoldable pub sum_over : List ℕ → (ℕ → ℕ) → ℕ
sum_over [] f = 0
sum_over (b ∷ l) f = f b + sum_over l f

-- x where the test holds, and 0 elsewhere
abbrev pub only : Bool → ℕ → ℕ
only e x = cond e x 0
