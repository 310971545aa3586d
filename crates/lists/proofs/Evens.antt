-- The bound is reached: no box with a free mark lies in the class of the combinations with an even number of marks on, since two that differ in that mark
-- alone are not both in it. So its lists have a box for each of its combinations, and these are half of all.
use mathlib.Core.Path.{◌≡◌, refl, sym, ◌∙◌, ap, ap₂}
use mathlib.Core.Bool.{Bool, true, false, not, cond, ◌&&◌, false≢true}
use mathlib.Core.List.{List, [], ◌∷◌}
use Prim.Native.Nat.{ℕ, zero, suc, ◌+◌, ◌*◌, ◌-◌, ◌/◌, ◌%◌, ◌^◌, ◌<◌}
use native.Mathlib.Nat.{pow-suc}
use native.Mathlib.Omega.{arith}
use lib.Dec.{eqb, ltb}
use lib.ListN.{length}
use borrow.Author.Tests.{lt-ltb, ltb-true}
use Rattle.ground.proofs.Cases.{if, clash, below_or, and_left, and_right}
use Rattle.boxes.specs.Boxes.{agrees, contains, sum_in, free_count, lowest}
use Rattle.boxes.specs.Sums.{sum, sum_over, only}
use Rattle.boxes.proofs.Boxes.{contains_even, contains_odd, sum_in_count}
use Rattle.boxes.proofs.Choices.{lowest_contained}
use Rattle.boxes.proofs.Sums.{sum_ext, sum-add, sum_ones, sum_pairs}
use Rattle.lists.specs.Lists.{Boxes, covered, Small, AtLeast, most_lines}
use Rattle.lists.proofs.Count.{covered_in, covered_more, lines_sum}

-- an even number of the lowest m marks of c is on
unfoldable even : ℕ → ℕ → Bool
even zero c = true
even (suc m) c = cond (eqb (c % 2) 0) (even m (c / 2)) (not (even m (c / 2)))

abbrev evens : ℕ → ℕ → Bool
evens m c = ltb c (2 ^ m) && even m c

even_off : (m x : ℕ) → even (suc m) (x * 2) ≡ even m x
unfolding even
even_off m x = let r : x * 2 % 2 ≡ 0 = omega arith in let q : x * 2 / 2 ≡ x = omega arith in rw (r, q)

even_on : (m x : ℕ) → even (suc m) (x * 2 + 1) ≡ not (even m x)
unfolding even
even_on m x = let r : (x * 2 + 1) % 2 ≡ 1 = omega arith in let q : (x * 2 + 1) / 2 ≡ x = omega arith in rw (r, q)

not_both : (a p : Bool) → a ≡ p → not a ≡ p → ⊥
not_both true p e f = false≢true (f ∙ sym e)
not_both false p e f = false≢true (e ∙ sym f)

flipped : (a p : Bool) → not a ≡ p → a ≡ not p
flipped true p e = ap not e
flipped false p e = ap not e

-- a box whose combinations are all even, or all odd, has no free mark
no_free : (m b : ℕ) (p : Bool) → b < 3 ^ m → ((c : ℕ) → contains m b c ≡ true → even m c ≡ p) → free_count m b ≡ 0
unfolding free_count agrees
no_free zero b p l h = refl
no_free (suc m) b p l h =
    let high : b / 3 < 3 ^ m = omega (arith, pow-suc 3 m) in
    below_or (b % 3) 2
    (λ d. below_or (b % 3) 1
    (λ z.
    let e : b % 3 ≡ 0 = omega arith in
    omega (arith, e, no_free m (b / 3) p high (λ c t. sym (even_off m c) ∙ h (c * 2) (contains_even m b c ∙ rw (e, t)))))
    (λ z.
    let e : b % 3 ≡ 1 = omega arith in
    omega (arith, e, no_free m (b / 3) (not p) high (λ c t. flipped (even m c) p (sym (even_on m c) ∙ h (c * 2 + 1) (contains_odd m b c ∙ rw (e, t)))))))
    (λ d.
    let e : b % 3 ≡ 2 = omega arith in
    let x = lowest m (b / 3) in
    let t : contains m (b / 3) x ≡ true = lowest_contained m (b / 3) high in
    absurd
    (not_both (even m x) p
    (sym (even_off m x) ∙ h (x * 2) (contains_even m b x ∙ rw (e, t)))
    (sym (even_on m x) ∙ h (x * 2 + 1) (contains_odd m b x ∙ rw (e, t)))))

-- so boxes inside the class have one combination each
singles : (m : ℕ) (l : List ℕ) → Boxes m l → ((c : ℕ) → covered m l c ≡ true → even m c ≡ true) → sum_over l (λ b. sum_in m b (λ c. 1)) ≡ length l
unfolding sum_over Boxes covered
singles m [] b h = refl
singles m (b ∷ l) i h =
    let free = no_free m b true i.0 (λ c t. h c (covered_in m b l c t)) in
    let one : sum_in m b (λ c. 1) ≡ 1 = sum_in_count m b i.0 ∙ ap (λ (n : ℕ). 2 ^ n) free in
    omega (arith, one, singles m l i.1 (λ c t. h c (covered_more m b l c t)))

-- either a combination or its partner is even
halves : (m : ℕ) → sum (2 ^ m) (λ c. only (even m c) 1) ≡ most_lines m
unfolding even sum
halves zero = refl
halves (suc m) =
    let N = 2 ^ m in
    let p : 2 ^ suc m ≡ N * 2 = omega (arith, pow-suc 2 m) in
    let e : suc m - 1 ≡ m = omega arith in
    let one : (a : Bool) → only a 1 + only (not a) 1 ≡ 1 = λ a. if a (λ t. rw t) (λ t. rw t) in
    rw e (ap (λ (n : ℕ). sum n (λ c. only (even (suc m) c) 1)) p
    ∙ sum_pairs N (λ c. only (even (suc m) c) 1)
    ∙ sym (sum-add N (λ c. only (even (suc m) (c * 2)) 1) (λ c. only (even (suc m) (c * 2 + 1)) 1))
    ∙ sum_ext N _ _ (λ c l. ap₂ (λ (x y : Bool). only x 1 + only y 1) (even_off m c) (even_on m c) ∙ one (even m c))
    ∙ sum_ones N)

-- THE BOUND IS REACHED, over any number of marks
pub reached : (m : ℕ) → (class : ℕ → Bool) × Small m class × AtLeast m class class (most_lines m)
reached m = (
  evens m,
  λ c t. ltb-true c (2 ^ m) (and_left _ _ t),
  λ l f.
      let inside : (c : ℕ) → covered m l c ≡ true → even m c ≡ true = λ c t. and_right (ltb c (2 ^ m)) _ (f.inside c t) in
      let is : (c : ℕ) → c < 2 ^ m → covered m l c ≡ even m c = λ c h. if (even m c)
      (λ t. f.covers c (rw (lt-ltb c (2 ^ m) h, t)) ∙ sym t)
      (λ t. if (covered m l c) (λ w. clash (inside c w) t) (λ w. w ∙ sym t)) in
      omega (
        arith,
        singles m l f.boxes inside,
        lines_sum m l (λ c. 1) f.apart,
        sum_ext (2 ^ m) (λ c. only (covered m l c) 1) (λ c. only (even m c) 1) (λ c h. ap (λ (t : Bool). only t 1) (is c h)),
        halves m,
      ),
)
