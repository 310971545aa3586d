-- Where all that has room is needed, a class put for both: a box inside the class has its own lowest combination as the lowest needed one,
-- so that `Rising` is 'in rising order of each box's lowest combination'. (The boxes of a fitting list are inside the class: `fits_independent`.)
use mathlib.Core.Path.{◌≡◌, refl, ap₂}
use mathlib.Core.Bool.{Bool, ◌&&◌, and-false}
use mathlib.Core.List.{List, [], ◌∷◌}
use Prim.Native.Nat.{ℕ}
use native.Mathlib.Omega.{arith}
use Rattle.boxes.specs.Boxes.{contains, lowest}
use Rattle.ground.proofs.Cases.{if}
use Rattle.boxes.proofs.Boxes.{contains_combination}
use Rattle.boxes.proofs.Choices.{lowest_contained, lowest-least}
use Rattle.lists.specs.Lists.{lowest_needed, Ahead, Rising, LowAhead, LowRising}
use Rattle.lists.specs.Pottosin.{Interval, Independent}
use Rattle.lists.proofs.Fit.{lowest-is}

module _ (m : ℕ) (class : ℕ → Bool) where
  pub lowest_needed_is : (b : ℕ) → Interval m class b → lowest_needed m class b ≡ lowest m b
  lowest_needed_is b i =
      let here = lowest_contained m b i.0 in
      lowest-is m (λ c. class c && contains m b c) (lowest m b) (rw (i.1 (lowest m b) here, here)) (contains_combination m b (lowest m b) here)
      (λ d l. if (contains m b d) (λ t. absurd (omega (arith, lowest-least m b d t))) (λ t. rw (t, and-false (class d))))

  ahead_same : (b : ℕ) (l : List ℕ) → Interval m class b → Independent m class l → Ahead m class b l ≡ LowAhead m b l
  unfolding Ahead LowAhead Independent
  ahead_same b [] i g = refl
  ahead_same b (a ∷ l) i g =
      rw (lowest_needed_is b i, lowest_needed_is a g.0, ahead_same b l i g.2)

  pub rising_same : (l : List ℕ) → Independent m class l → Rising m class l ≡ LowRising m l
  unfolding Rising LowRising Independent
  rising_same [] g = refl
  rising_same (b ∷ l) g = ap₂ (λ (A B : Type 0). A × B) (ahead_same b l g.0 g.2) (rising_same l g.2)
