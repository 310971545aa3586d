-- A fitting list exists wherever what is needed has room, and one of at most half as many boxes as there are combinations: for each pair of combinations
-- that differ in mark 0, the pair's own box where both are needed, and otherwise the box of the one that is.
use mathlib.Core.Path.{◌≡◌, refl, sym, ap, ◌∙◌, subst, fun_ext}
use mathlib.Core.Bool.{Bool, true, false, not, ◌&&◌, and-true, and-false}
use mathlib.Core.List.{List, [], ◌∷◌}
use Prim.Native.Nat.{ℕ, zero, suc, ◌+◌, ◌-◌, ◌*◌, ◌/◌, ◌%◌, ◌^◌, ◌<◌, ◌≤◌, zero-le, max}
use native.Mathlib.Nat.{pow-suc, le_refl}
use native.Mathlib.Omega.{arith}
use lib.Dec.{eqb, ltb, lit<}
use lib.ListN.{length}
use borrow.Author.Tests.{eq-eqb, ne_eqb, eqb-true, lt-ltb, le-ltb}
use Rattle.boxes.specs.Boxes.{agrees, contains, through, single}
use Rattle.ground.proofs.Cases.{if, clash, below_or, same_or, and_left, and_right}
use Rattle.boxes.proofs.Choices.{through-lt, single-contains}
use Rattle.lists.specs.Lists.{Fits, FirstShortest, Small, Within, most_lines}
use Rattle.lists.proofs.Fit.{less, fits_cons, fits_none, fits_room, fits_within}

-- the box of c with mark 0 free contains the combinations that agree with c in the other marks
pair_contains : (m c d : ℕ) → contains (suc m) (through (suc m) c 1) d ≡ contains m (single m (c / 2)) (d / 2)
unfolding contains through agrees
pair_contains m c d =
    let s = through m (c / 2) 0 in
    let x : (s * 3 + max (c % 2) 2) % 3 ≡ 2 = omega arith in
    let q : (s * 3 + max (c % 2) 2) / 3 ≡ s = omega arith in
    rw (x, q)

module _ (m : ℕ) (need : ℕ → Bool) where
  -- what is needed of the first k pairs
  upto : ℕ → ℕ → Bool
  upto k c = ltb (c / 2) k && need c

  -- of pair k alone
  abbrev of_pair : ℕ → ℕ → Bool
  of_pair k c = eqb (c / 2) k && need c

  abbrev Paired : ℕ → Type 0
  Paired k = (l : List ℕ) × Fits (suc m) (upto k) (upto k) l × (length l ≤ k)

  upto_more : (k c : ℕ) → need c ≡ true → c / 2 ≤ k → upto (suc k) c ≡ true
  unfolding upto
  upto_more k c e h = rw (lt-ltb (c / 2) (suc k) (omega arith), e)

  upto_pair : (k c : ℕ) → of_pair k c ≡ true → upto (suc k) c ≡ true
  upto_pair k c e = upto_more k c (and_right (eqb (c / 2) k) _ e) (omega (arith, eqb-true (c / 2) k (and_left _ _ e)))

  -- pair k is taken off
  upto_less : (k c : ℕ) → (upto (suc k) c && not (of_pair k c)) ≡ upto k c
  unfolding upto
  upto_less k c = if (need c)
      (λ e. below_or (c / 2) k
      (λ h. rw (e, lt-ltb (c / 2) k h, lt-ltb (c / 2) (suc k) (omega arith), ne_eqb (c / 2) k (λ z. omega arith)))
      (λ h. same_or (c / 2) k
      (λ q. rw (e, le-ltb (c / 2) k h, lt-ltb (c / 2) (suc k) (omega arith), eq-eqb (c / 2) k q))
      (λ q. rw (e, le-ltb (c / 2) k h, le-ltb (c / 2) (suc k) (let n : c / 2 ≡ k → ⊥ = q in omega arith)))))
      (λ e. rw (e, and-false (ltb (c / 2) (suc k)), and-false (ltb (c / 2) k)))

  -- a box with just what is needed of pair k
  with_box : (k b : ℕ) → b < 3 ^ suc m → ((c : ℕ) → contains (suc m) b c ≡ of_pair k c) → Paired k → Paired (suc k)
  with_box k b lt is y =
      let e : upto k ≡ less (suc m) (upto (suc k)) b = fun_ext (λ c. sym (ap (λ (x : Bool). upto (suc k) c && not x) (is c) ∙ upto_less k c)) in (
        b ∷ y.0,
        fits_cons (suc m) lt (λ c t. upto_pair k c (sym (is c) ∙ t)) (subst (λ (p : ℕ → Bool). Fits (suc m) p p y.0) e y.1),
        omega (arith, y.2),
      )

  -- nothing of pair k is needed
  without : (k : ℕ) → ((c : ℕ) → of_pair k c ≡ false) → Paired k → Paired (suc k)
  without k none y =
      let e : upto k ≡ upto (suc k) = fun_ext (λ c. sym (upto_less k c) ∙ ap (λ (x : Bool). upto (suc k) c && not x) (none c) ∙ and-true (upto (suc k) c)) in
      (y.0, subst (λ (p : ℕ → Bool). Fits (suc m) p p y.0) e y.1, omega (arith, y.2))

  -- a test of pair k by its two combinations
  by_pair : (k : ℕ) (p : ℕ → Bool) → ((c : ℕ) → p c ≡ true → c / 2 ≡ k) → p (k * 2) ≡ need (k * 2) → p (k * 2 + 1) ≡ need (k * 2 + 1) → (c : ℕ) → p c ≡ of_pair k c
  by_pair k p only_k even odd c = same_or (c / 2) k
      (λ q. rw (eq-eqb (c / 2) k q) (below_or (c % 2) 1
      (λ h. let d : c ≡ k * 2 = omega arith in ap p d ∙ even ∙ sym (ap need d))
      (λ h. let d : c ≡ k * 2 + 1 = omega arith in ap p d ∙ odd ∙ sym (ap need d))))
      (λ q. rw (ne_eqb (c / 2) k q) (if (p c) (λ e. absurd (q (only_k c e))) (λ e. e)))

  step : (k : ℕ) → k < 2 ^ m → Paired k → Paired (suc k)
  step k h y =
      let p = pow-suc 2 m in
      let half : k * 2 / 2 ≡ k = omega arith in
      if (need (k * 2))
      (λ a. if (need (k * 2 + 1))
      (λ b. with_box k (through (suc m) (k * 2) 1) (through-lt (suc m) (k * 2) 1)
      (λ c. pair_contains m (k * 2) c ∙ ap (λ (x : ℕ). contains m (single m x) (c / 2)) half ∙ single-contains m k (c / 2) h
      ∙ by_pair k (λ d. eqb k (d / 2)) (λ d e. sym (eqb-true k (d / 2) e)) (eq-eqb k (k * 2 / 2) (sym half) ∙ sym a) (eq-eqb k ((k * 2 + 1) / 2) (omega arith) ∙ sym b) c) y)
      (λ b. with_box k (single (suc m) (k * 2)) (through-lt (suc m) (k * 2) 0)
      (λ c. single-contains (suc m) (k * 2) c (omega arith)
      ∙ by_pair k (eqb (k * 2)) (λ d e. omega (arith, eqb-true (k * 2) d e)) (eq-eqb (k * 2) (k * 2) refl ∙ sym a) (ne_eqb (k * 2) (k * 2 + 1) (λ z. omega arith) ∙ sym b) c) y))
      (λ a. if (need (k * 2 + 1))
      (λ b. with_box k (single (suc m) (k * 2 + 1)) (through-lt (suc m) (k * 2 + 1) 0)
      (λ c. single-contains (suc m) (k * 2 + 1) c (omega arith)
      ∙ by_pair k (eqb (k * 2 + 1)) (λ d e. omega (arith, eqb-true (k * 2 + 1) d e)) (ne_eqb (k * 2 + 1) (k * 2) (λ z. omega arith) ∙ sym a) (eq-eqb (k * 2 + 1) (k * 2 + 1) refl ∙ sym b) c) y)
      (λ b. without k (λ c. sym (by_pair k (λ d. false) (λ d e. absurd (clash e refl)) (sym a) (sym b) c)) y))

  pairs : (k : ℕ) → k ≤ 2 ^ m → Paired k
  unfolding upto
  pairs zero h = ([], fits_none (suc m) _ _ (λ c t. clash t (ap (λ (x : Bool). x && need c) (le-ltb (c / 2) 0 zero-le))), zero-le)
  pairs (suc k) h = step k (omega arith) (pairs k (omega arith))

  -- OVER m + 1 MARKS a list of at most 2 ^ m boxes fits
  half_exists : Small (suc m) need → (l : List ℕ) × Fits (suc m) need need l × (length l ≤ 2 ^ m)
  unfolding upto
  half_exists s =
      let y = pairs (2 ^ m) (le_refl (2 ^ m)) in
      let p = pow-suc 2 m in
      let e : upto (2 ^ m) ≡ need = fun_ext (λ c. if (need c)
      (λ t. let h = s c t in rw (t, lt-ltb (c / 2) (2 ^ m) (omega arith)))
      (λ t. rw (t, and-false (ltb (c / 2) (2 ^ m))))) in
      (y.0, subst (λ (q : ℕ → Bool). Fits (suc m) q q y.0) e y.1, y.2)

-- A LIST EXISTS exactly where what is needed has room: the other half is `fits_within`
pub exists : (m : ℕ) (need room : ℕ → Bool) → Small m need → Within need room → (l : List ℕ) × Fits m need room l × (length l ≤ most_lines m)
unfolding contains
exists zero need room s h = if (need 0)
    (λ e. (
      0 ∷ [],
      fits_cons zero (lit< tt) (λ c t. let z = eqb-true c 0 t in ap room z ∙ h 0 e)
          (fits_none zero _ _ (λ c t.
          let z : c ≡ 0 = omega (arith, s c (and_left _ _ t)) in
          clash (and_right (need c) _ t) (ap (λ (x : ℕ). not (eqb x 0)) z))),
      omega arith,
    ))
    (λ e. ([], fits_none zero need room (λ c t. let z : c ≡ 0 = omega (arith, s c t) in clash t (ap need z ∙ e)), zero-le))
exists (suc m) need room s h =
    let y = half_exists m need s in
    let e : suc m - 1 ≡ m = omega arith in
    (y.0, fits_room (suc m) room h y.1, rw e y.2)

-- A SHORTEST LIST HAS AT MOST HALF AS MANY BOXES AS THERE ARE COMBINATIONS, whatever has room, and one where there is but one combination
pub at_most : (m : ℕ) {need room : ℕ → Bool} {l : List ℕ} → Small m need → FirstShortest m need room l → length l ≤ most_lines m
at_most m {need} {room} s f = let y = exists m need room s (fits_within m f.fits) in omega (arith, f.shortest y.0 y.1, y.2)
