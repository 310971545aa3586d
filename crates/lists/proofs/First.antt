-- Of two lists one is before the other or they are equal, and never both: so at most one list is the first shortest.
use mathlib.Core.Path.{◌≡◌, sym}
use mathlib.Core.Bool.{Bool}
use mathlib.Core.List.{List, [], ◌∷◌}
use mathlib.Core.Logic.{◌⊎◌, inl, inr}
use Prim.Native.Nat.{ℕ}
use native.Mathlib.Omega.{arith}
use Rattle.lists.specs.Lists.{Smaller, Before, FirstShortest}

smaller_not : (l k : List ℕ) → Smaller l k → Smaller k l → ⊥
unfolding Smaller
smaller_not [] [] h g = h
smaller_not [] (b ∷ k) h g = h
smaller_not (a ∷ l) [] h g = h
smaller_not (a ∷ l) (b ∷ k) (inl h) (inl g) = omega arith
smaller_not (a ∷ l) (b ∷ k) (inl h) (inr g) = omega (arith, g.0)
smaller_not (a ∷ l) (b ∷ k) (inr h) (inl g) = omega (arith, h.0)
smaller_not (a ∷ l) (b ∷ k) (inr h) (inr g) = smaller_not l k h.1 g.1

pub before_not : (l k : List ℕ) → Before l k → Before k l → ⊥
before_not l k (inl h) (inl g) = omega arith
before_not l k (inl h) (inr g) = omega (arith, g.0)
before_not l k (inr h) (inl g) = omega (arith, h.0)
before_not l k (inr h) (inr g) = smaller_not l k h.1 g.1

-- AT MOST ONE LIST IS THE FIRST SHORTEST
pub unique : {m : ℕ} {need room : ℕ → Bool} {l k : List ℕ} → FirstShortest m need room l → FirstShortest m need room k → l ≡ k
unique {m} {need} {room} {l} {k} f g = go (f.first k g.fits g.rising) (g.first l f.fits f.rising)
  where
    go : (l ≡ k) ⊎ Before l k → (k ≡ l) ⊎ Before k l → l ≡ k
    go (inl p) q = p
    go (inr p) (inl q) = sym q
    go (inr p) (inr q) = absurd (before_not l k p q)
