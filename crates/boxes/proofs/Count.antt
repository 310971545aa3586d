-- How many boxes contain a combination: 2^m, for each mark has two digits that let it through, its own and the free one.
use Prim.Native.Nat.{ℕ, zero, suc, ◌+◌, ◌*◌, ◌/◌, ◌%◌, ◌^◌, ◌<◌}
use mathlib.Core.Bool.{Bool, true, false, ◌&&◌}
use mathlib.Core.Path.{◌≡◌, refl, ◌∙◌, ap, ap₂}
use native.Mathlib.Nat.{pow-suc}
use native.Mathlib.Omega.{arith}
use borrow.Author.Tests.{eq-eqb}
use Rattle.ground.proofs.Cases.{mark}
use Rattle.boxes.specs.Boxes.{agrees, contains}
use Rattle.boxes.specs.Sums.{sum, only}
use Rattle.boxes.proofs.Sums.{sum_ext, sum-mul}

sum_threes : (n : ℕ) (f : ℕ → ℕ) → sum (n * 3) f ≡ sum n (λ b. f (b * 3) + f (b * 3 + 1) + f (b * 3 + 2))
unfolding sum
sum_threes zero f = refl
sum_threes (suc n) f =
    let e : suc n * 3 ≡ suc (suc (suc (n * 3))) = omega arith in
    let one : suc (n * 3) ≡ n * 3 + 1 = omega arith in
    let two : suc (suc (n * 3)) ≡ n * 3 + 2 = omega arith in
    ap (λ (k : ℕ). sum k f) e ∙ omega (arith, sum_threes n f, ap f one, ap f two)

two_digits : (v : ℕ) (e : Bool) → v < 2 → only (agrees 0 v && e) 1 + only (agrees 1 v && e) 1 + only (agrees 2 v && e) 1 ≡ only e 1 * 2
unfolding agrees
two_digits v true l = mark (λ (x : ℕ). only (agrees 0 x && true) 1 + only (agrees 1 x && true) 1 + only (agrees 2 x && true) 1 ≡ 2) v l refl refl
two_digits v false l = mark (λ (x : ℕ). only (agrees 0 x && false) 1 + only (agrees 1 x && false) 1 + only (agrees 2 x && false) 1 ≡ 0) v l refl refl

pub boxes_through : (m c : ℕ) → c < 2 ^ m → sum (3 ^ m) (λ b. only (contains m b c) 1) ≡ 2 ^ m
unfolding contains
boxes_through zero c l = unfold sum in rw (eq-eqb c 0 (omega arith))
boxes_through (suc m) c l =
    let at : (b d : ℕ) → d < 3 → contains (suc m) (b * 3 + d) c ≡ (agrees d (c % 2) && contains m b (c / 2)) =
    λ b d h.
    let r : (b * 3 + d) % 3 ≡ d = omega arith in
    let q : (b * 3 + d) / 3 ≡ b = omega arith in
    ap₂ (λ (x y : ℕ). agrees x (c % 2) && contains m y (c / 2)) r q in
    let zero_is : (b : ℕ) → b * 3 ≡ b * 3 + 0 = λ b. omega arith in
    let i = boxes_through m (c / 2) (omega (arith, pow-suc 2 m)) in
    ap (λ (k : ℕ). sum k (λ b. only (contains (suc m) b c) 1)) (pow-suc 3 m)
    ∙ sum_threes (3 ^ m) (λ b. only (contains (suc m) b c) 1)
    ∙ sum_ext (3 ^ m) _ (λ b. only (contains m b (c / 2)) 1 * 2) (λ b lb.
    omega (
      arith,
      ap (λ (x : ℕ). only (contains (suc m) x c) 1) (zero_is b),
      ap (λ (t : Bool). only t 1) (at b 0 (omega arith)),
      ap (λ (t : Bool). only t 1) (at b 1 (omega arith)),
      ap (λ (t : Bool). only t 1) (at b 2 (omega arith)),
      two_digits (c % 2) (contains m b (c / 2)) (omega arith),
    ))
    ∙ sum-mul (3 ^ m) (λ b. only (contains m b (c / 2)) 1) 2
    ∙ omega (arith, pow-suc 2 m)
