-- Where each number below n passes a test, so does any one of them: a table's rule, computed once over all entries, holds at each.
use Prim.Native.Nat.{ℕ, zero, suc, ◌<◌}
use mathlib.Core.Bool.{Bool, true, false}
use mathlib.Core.Path.{◌≡◌, refl, ◌∙◌, ap}
use native.Mathlib.Omega.{arith}
use Rattle.ground.specs.Every.{every}
use Rattle.ground.proofs.Cases.{if, clash, same_or, and_left, and_right}

pub every_at : (n : ℕ) (p : ℕ → Bool) (b : ℕ) → every n p ≡ true → b < n → p b ≡ true
unfolding every
every_at zero p b e l = absurd (omega arith)
every_at (suc n) p b e l =
    same_or b n
    (λ s. ap p s ∙ and_right (every n p) (p n) e)
    (λ d. every_at n p b (and_left (every n p) (p n) e) (omega arith))

pub every_yes : (n : ℕ) (p : ℕ → Bool) → ((b : ℕ) → b < n → p b ≡ true) → every n p ≡ true
unfolding every
every_yes zero p h = refl
every_yes (suc n) p h = rw (every_yes n p (λ b l. h b (omega arith)), h n (omega arith))

pub every_no : (n : ℕ) (p : ℕ → Bool) (b : ℕ) → b < n → p b ≡ false → every n p ≡ false
every_no n p b l f = if (every n p) (λ e. clash (every_at n p b e l) f) (λ e. e)
