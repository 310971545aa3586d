-- The first index where something holds: it holds at none of those passed.
use Prim.Native.Nat.{ℕ, ◌+◌, ◌<◌}
use mathlib.Core.Path.{subst}
use mathlib.Core.List.{List}
use native.Mathlib.Omega.{arith}
use lib.ListN.{length}
use Rattle.std.specs.Prelude.{Option, Some, None}
use Rattle.ground.proofs.Cases.{same_or}
use Rattle.checking.specs.Parts.{Sought}

abbrev pub Passed : (ℕ → Type 0) → ℕ → Type 0
Passed P i = (j : ℕ) → j < i → P j → ⊥

module _ (P : ℕ → Type 0) where
  pub passed_none : Passed P 0
  passed_none j h = absurd (omega arith)

  pub passed_more : (i : ℕ) → Passed P i → (P i → ⊥) → Passed P (i + 1)
  passed_more i p n j h = same_or j i (λ e x. n (subst P e x)) (λ d. p j (omega arith))

-- what is sought by a test of each number is what the test says
pub sought_by : {P Q : ℕ → Type 0} (l : List ℕ) → ((i : ℕ) → i < length l → P i → Q i) → ((i : ℕ) → i < length l → Q i → P i) → (r : Option ℕ) → Sought l P r → Sought l Q r
sought_by l f g None s = λ j h x. s j h (g j h x)
sought_by l f g (Some i) s = record { inside = s.inside; none_before = λ j h x. s.none_before j h (g j (omega (arith, h, s.inside)) x); here = f i s.inside s.here }
