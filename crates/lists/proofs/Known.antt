-- The first shortest list of a class told by its combinations is computed by the model of the search: for known sheets.
use mathlib.Core.Path.{◌≡◌, refl, sym, subst}
use mathlib.Core.Bool.{Bool, true, false, ◌&&◌, false≢true}
use mathlib.Core.List.{List, [], ◌∷◌}
use mathlib.Core.Option.{Option, none, some}
use Prim.Native.Nat.{ℕ, ◌+◌, ◌^◌, ◌<◌}
use lib.Dec.{eqb, ltb}
use borrow.Author.Tests.{eqb-true, ltb-true}
use Rattle.ground.proofs.Cases.{if, and_left, and_right}
use Rattle.lists.specs.Lists.{among, FirstShortest, Small, most_lines}
use Rattle.lists.proofs.Model.{fewest, found}

-- each is below n
unfoldable pub below : ℕ → List ℕ → Bool
below n [] = true
below n (x ∷ l) = ltb x n && below n l

unfoldable pub alike : List ℕ → List ℕ → Bool
alike [] [] = true
alike [] (b ∷ k) = false
alike (a ∷ l) [] = false
alike (a ∷ l) (b ∷ k) = eqb a b && alike l k

unfoldable pub gives : Option (List ℕ) → List ℕ → Bool
gives none l = false
gives (some k) l = alike k l

-- whether the list is the one that the search finds
unfoldable pub first_is : ℕ → List ℕ → List ℕ → Bool
first_is m class list = below (2 ^ m) class && gives (fewest m (among class) (among class) (most_lines m + 1) 0) list

below_small : (m : ℕ) (l : List ℕ) → below (2 ^ m) l ≡ true → Small m (among l)
unfolding below among
below_small m [] h c e = absurd (false≢true e)
below_small m (x ∷ l) h c e = if (eqb c x)
    (λ t. subst (λ (y : ℕ). y < 2 ^ m) (sym (eqb-true c x t)) (ltb-true x (2 ^ m) (and_left _ _ h)))
    (λ t. below_small m l (and_right (ltb x (2 ^ m)) _ h) c (rw t at e))

alike_same : (l k : List ℕ) → alike l k ≡ true → l ≡ k
unfolding alike
alike_same [] [] e = refl
alike_same [] (b ∷ k) e = absurd (false≢true e)
alike_same (a ∷ l) [] e = absurd (false≢true e)
alike_same (a ∷ l) (b ∷ k) e =
    let p = eqb-true a b (and_left _ _ e) in
    let q = alike_same l k (and_right (eqb a b) _ e) in
    cc

gives_same : (o : Option (List ℕ)) (l k : List ℕ) → gives o l ≡ true → o ≡ some k → k ≡ l
unfolding gives
gives_same none l k e q = absurd (false≢true e)
gives_same (some j) l k e q = let p = alike_same j l e in cc

pub known_list : (m : ℕ) (class list : List ℕ) → first_is m class list ≡ true → FirstShortest m (among class) (among class) list
unfolding first_is
known_list m class list e =
    let p = among class in
    let r = found m p p (below_small m class (and_left _ _ e)) (λ c t. t) in
    let q = gives_same (fewest m p p (most_lines m + 1) 0) list r.0 (and_right (below (2 ^ m) class) _ e) r.1 in
    subst (FirstShortest m p p) q r.2
