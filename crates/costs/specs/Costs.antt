-- What weights show of fitting lists.
use Rattle.std.specs.Prelude.{Bool, List, ℕ, ◌+◌, ◌*◌, ◌^◌, ◌<◌, ◌≤◌, length}
use Rattle.boxes.specs.Sums.{sum, sum_over, only}
use Rattle.sets.specs.Sets.{set_marks, value_at}
use Rattle.lists.specs.Lists.{Fits}

-- the parts of a box that weights and costs are told in
abbrev pub whole : ℕ
whole = 65536

-- weights of p and q in all: a fitting list costs at most `whole` for each of its boxes, and q - p; and q is no large number
pub record Certified (m : ℕ) (costs : List ℕ) (need room : ℕ → Bool) (p q : ℕ) : Type 0 where
  pub cost : (l : List ℕ) → Fits m need room l → sum_over l (value_at costs) + p ≤ length l * whole + q
  pub small : q < 2 ^ 37

-- the weight of a set of combinations
abbrev pub weight : (ℕ → Bool) → (ℕ → ℕ) → ℕ
weight p f = sum (2 ^ set_marks) (λ c. only (p c) (f c))
