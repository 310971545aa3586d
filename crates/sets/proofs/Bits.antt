-- Sets of combinations as numbers, a bit for each: what `&`, `|`, `!` and `trailing_zeros` do to them, bit by bit.
use mathlib.Core.Path.{◌≡◌, refl, sym, ap, ◌∙◌}
use mathlib.Core.Bool.{Bool, true, false, not, ◌&&◌, ◌||◌}
use Prim.Native.Nat.{ℕ, zero, suc, ◌+◌, ◌*◌, ◌-◌, ◌/◌, ◌%◌, ◌^◌, ◌<◌, ◌≤◌, min, max}
use native.Mathlib.Nat.{pow-suc, not-suc-le-zero, div-one}
use native.Mathlib.Numerals.{one-add}
use native.Mathlib.Omega.{arith}
use lib.Arith.{bin_ind}
use lib.Bits.{bit_and, bit_or, and_step, or_step, and_le_l}
use lib.Count.{under, count_trailing_zeros}
use lib.Dec.{eqb}
use lib.Pow.{shr-shr}
use borrow.Author.Tests.{eqb-true, eqb-false, eq-eqb, ne_eqb}
use Rattle.boxes.specs.Sums.{only}
use Rattle.boxes.proofs.Masks.{other_rest, other_mark}
use Rattle.ground.proofs.Cases.{if, clash, below_or, mark, and_left, and_right}
use Rattle.sets.specs.Sets.{has}

and_bit : (x y : ℕ) → x < 2 → y < 2 → eqb (min x y) 1 ≡ (eqb x 1 && eqb y 1)
and_bit x y hx hy = mark (λ (v : ℕ). eqb (min v y) 1 ≡ (eqb v 1 && eqb y 1)) x hx
    (mark (λ (w : ℕ). eqb (min 0 w) 1 ≡ false) y hy refl refl)
    (mark (λ (w : ℕ). eqb (min 1 w) 1 ≡ eqb w 1) y hy refl refl)

pub has-and : (c a b : ℕ) → has (bit_and a b) c ≡ (has a c && has b c)
unfolding has
has-and zero a b =
    let e : bit_and a b % 2 ≡ min (a % 2) (b % 2) = omega (arith, and_step a b) in
    ap (λ (x : ℕ). eqb x 1) e ∙ and_bit (a % 2) (b % 2) (omega arith) (omega arith)
has-and (suc c) a b =
    let e : bit_and a b / 2 ≡ bit_and (a / 2) (b / 2) = omega (arith, and_step a b) in
    ap (λ (x : ℕ). has x c) e ∙ has-and c (a / 2) (b / 2)

or_bit : (x y : ℕ) → x < 2 → y < 2 → eqb (max x y) 1 ≡ (eqb x 1 || eqb y 1)
or_bit x y hx hy = mark (λ (v : ℕ). eqb (max v y) 1 ≡ (eqb v 1 || eqb y 1)) x hx
    (mark (λ (w : ℕ). eqb (max 0 w) 1 ≡ eqb w 1) y hy refl refl)
    (mark (λ (w : ℕ). eqb (max 1 w) 1 ≡ true) y hy refl refl)

pub has-or : (c a b : ℕ) → has (bit_or a b) c ≡ (has a c || has b c)
unfolding has
has-or zero a b =
    let e : bit_or a b % 2 ≡ max (a % 2) (b % 2) = omega (arith, or_step a b) in
    ap (λ (x : ℕ). eqb x 1) e ∙ or_bit (a % 2) (b % 2) (omega arith) (omega arith)
has-or (suc c) a b =
    let e : bit_or a b / 2 ≡ bit_or (a / 2) (b / 2) = omega (arith, or_step a b) in
    ap (λ (x : ℕ). has x c) e ∙ has-or c (a / 2) (b / 2)

-- the complement among the k lowest bits
pub has-not : (c k s : ℕ) → s < 2 ^ k → c < k → has ((2 ^ k - 1) - s) c ≡ not (has s c)
unfolding has
has-not zero zero s hs hc = absurd (not-suc-le-zero hc)
has-not (suc c) zero s hs hc = absurd (not-suc-le-zero hc)
has-not zero (suc k) s hs hc =
    ap (λ (x : ℕ). eqb x 1) (other_mark k s hs) ∙ mark (λ (v : ℕ). eqb (1 - v) 1 ≡ not (eqb v 1)) (s % 2) (omega arith) refl refl
has-not (suc c) (suc k) s hs hc =
    let p = pow-suc 2 k in
    ap (λ (x : ℕ). has x c) (other_rest k s hs) ∙ has-not c k (s / 2) (omega arith) (omega arith)

pub has-zero : (c : ℕ) → has 0 c ≡ false
unfolding has
has-zero zero = refl
has-zero (suc c) = has-zero c

-- no bit at or above the width
pub has_high : (k c a : ℕ) → a < 2 ^ k → k ≤ c → has a c ≡ false
unfolding has
has_high zero c a ha hc = let e : a ≡ 0 = omega arith in ap (λ (x : ℕ). has x c) e ∙ has-zero c
has_high (suc k) zero a ha hc = absurd (not-suc-le-zero hc)
has_high (suc k) (suc c) a ha hc = let p = pow-suc 2 k in has_high k c (a / 2) (omega arith) (omega arith)

pub has_small : (m a : ℕ) → a < 2 ^ (2 ^ m) → (c : ℕ) → has a c ≡ true → c < 2 ^ m
has_small m a h c e = below_or c (2 ^ m) (λ q. q) (λ q. absurd (clash e (has_high (2 ^ m) c a h q)))

-- a bit by a shift
pub has-shr : (c u : ℕ) → has u c ≡ eqb (u / 2 ^ c % 2) 1
unfolding has
has-shr zero u = ap (λ (x : ℕ). eqb (x % 2) 1) (sym (div-one u))
has-shr (suc c) u = has-shr c (u / 2) ∙ ap (λ (x : ℕ). eqb (x % 2) 1) (shr-shr u 1 c ∙ ap (λ (k : ℕ). u / 2 ^ k) (one-add c))

-- bit c put on top of a set below it
pub has_top : (c u : ℕ) → u < 2 ^ c → has (1 * 2 ^ c + u) c ≡ true
unfolding has
has_top zero u l = eq-eqb ((1 * 2 ^ 0 + u) % 2) 1 (omega arith)
has_top (suc c) u l =
    let p = pow-suc 2 c in
    let h : (1 * 2 ^ suc c + u) / 2 ≡ 1 * 2 ^ c + u / 2 = omega arith in
    rw h (has_top c (u / 2) (omega arith))

pub has_under : (c u k : ℕ) → u < 2 ^ c → k < c → has (1 * 2 ^ c + u) k ≡ has u k
unfolding has
has_under zero u k l h = absurd (omega arith)
has_under (suc c) u zero l h =
    let p = pow-suc 2 c in
    let e : (1 * 2 ^ suc c + u) % 2 ≡ u % 2 = omega arith in
    ap (λ (x : ℕ). eqb x 1) e
has_under (suc c) u (suc k) l h =
    let p = pow-suc 2 c in
    let e : (1 * 2 ^ suc c + u) / 2 ≡ 1 * 2 ^ c + u / 2 = omega arith in
    rw e (has_under c (u / 2) k (omega arith) (omega arith))

-- ---- sets with the same bits are one
no_bits : (b : ℕ) → ((c : ℕ) → has b c ≡ false) → b ≡ 0
unfolding has
no_bits = bin_ind (λ (b : ℕ). ((c : ℕ) → has b c ≡ false) → b ≡ 0) (λ h. refl)
    (λ b ih h.
    let z : b / 2 ≡ 0 = ih (λ c. h (suc c)) in
    let n = eqb-false (b % 2) 1 (h 0) in
    omega arith)

low_same : (x y : ℕ) → x < 2 → y < 2 → eqb x 1 ≡ eqb y 1 → x ≡ y
low_same x y hx hy e = if (eqb x 1)
    (λ t. eqb-true x 1 t ∙ sym (eqb-true y 1 (sym e ∙ t)))
    (λ t. let p = eqb-false x 1 t in let q = eqb-false y 1 (sym e ∙ t) in omega arith)

pub bits_same : (a b : ℕ) → ((c : ℕ) → has a c ≡ has b c) → a ≡ b
unfolding has
bits_same = bin_ind (λ (a : ℕ). (b : ℕ) → ((c : ℕ) → has a c ≡ has b c) → a ≡ b)
    (λ b h. sym (no_bits b (λ c. sym (h c) ∙ has-zero c)))
    (λ a ih b h.
    let q : a / 2 ≡ b / 2 = ih (b / 2) (λ c. h (suc c)) in
    let r : a % 2 ≡ b % 2 = low_same (a % 2) (b % 2) (omega arith) (omega arith) (h 0) in
    omega arith)

-- `a & b == a` tells whether a set lies in another

pub within_yes : (a b : ℕ) → bit_and a b ≡ a → (c : ℕ) → has a c ≡ true → has b c ≡ true
within_yes a b e c t = and_right (has a c) _ (sym (has-and c a b) ∙ ap (λ (x : ℕ). has x c) e ∙ t)

pub within_no : (a b : ℕ) → (bit_and a b ≡ a → ⊥) → ((c : ℕ) → has a c ≡ true → has b c ≡ true) → ⊥
within_no a b n w = n (bits_same _ _ (λ c. has-and c a b ∙ if (has a c) (λ t. rw (t, w c t)) (λ t. rw t)))

-- what a bit, turned, tells
pub has_out : (c u : ℕ) → 1 - u / 2 ^ c % 2 ≡ only (not (has u c)) 1
has_out c u = mark (λ (v : ℕ). 1 - v ≡ only (not (eqb v 1)) 1) (u / 2 ^ c % 2) (omega arith) refl refl ∙ ap (λ (t : Bool). only (not t) 1) (sym (has-shr c u))

-- ---- the lowest bit
even_step : (k u : ℕ) → u % 2 < 1 → count_trailing_zeros (suc k) u ≡ suc (count_trailing_zeros k (u / 2))
unfolding count_trailing_zeros
even_step k u l = let e : u % 2 ≡ 0 = omega arith in ap (λ (r : ℕ). under r (count_trailing_zeros k (u / 2))) e

odd_step : (k u : ℕ) → 1 ≤ u % 2 → count_trailing_zeros (suc k) u ≡ 0
unfolding count_trailing_zeros
odd_step k u l = let e : u % 2 ≡ 1 = omega arith in ap (λ (r : ℕ). under r (count_trailing_zeros k (u / 2))) e

zeros_has : (k u : ℕ) → u < 2 ^ k → (u ≡ 0 → ⊥) → has u (count_trailing_zeros k u) ≡ true
unfolding has
zeros_has zero u h n = absurd (n (omega arith))
zeros_has (suc k) u h n = below_or (u % 2) 1
    (λ l. let p = pow-suc 2 k in ap (has u) (even_step k u l) ∙ zeros_has k (u / 2) (omega arith) (λ z. n (omega arith)))
    (λ l. ap (has u) (odd_step k u l) ∙ eq-eqb (u % 2) 1 (omega arith))

pub zeros_below : (k u c : ℕ) → c < count_trailing_zeros k u → has u c ≡ false
unfolding has count_trailing_zeros
zeros_below zero u c h = absurd (not-suc-le-zero h)
zeros_below (suc k) u zero h = below_or (u % 2) 1 (λ l. ne_eqb (u % 2) 1 (λ (z : u % 2 ≡ 1). omega arith)) (λ l. absurd (omega (arith, odd_step k u l, h)))
zeros_below (suc k) u (suc c) h = below_or (u % 2) 1 (λ l. zeros_below k (u / 2) c (omega (arith, even_step k u l, h))) (λ l. absurd (omega (arith, odd_step k u l, h)))

-- where the set is not empty, `trailing_zeros` is in it
module _ (m u : ℕ) (wide : u < 2 ^ 32) (small : u < 2 ^ (2 ^ m)) (some : u ≡ 0 → ⊥) where
  pub zeros_needed : has u (count_trailing_zeros 32 u) ≡ true
  zeros_needed = zeros_has 32 u wide some

  pub zeros_lt : count_trailing_zeros 32 u < 2 ^ m
  zeros_lt = has_small m u small (count_trailing_zeros 32 u) zeros_needed

-- ---- what two sets share: nothing exactly if their `&` is 0
pub lowest_shared : (a b : ℕ) → a < 2 ^ 32 → (bit_and a b ≡ 0 → ⊥)
    → (has a (count_trailing_zeros 32 (bit_and a b)) ≡ true) × (has b (count_trailing_zeros 32 (bit_and a b)) ≡ true)
lowest_shared a b h n =
    let c = count_trailing_zeros 32 (bit_and a b) in
    let e : (has a c && has b c) ≡ true = sym (has-and c a b) ∙ zeros_has 32 (bit_and a b) (omega (arith, and_le_l a b)) n in
    (and_left (has a c) _ e, and_right (has a c) _ e)

pub shared : (a b : ℕ) → a < 2 ^ 32 → (bit_and a b ≡ 0 → ⊥) → (c : ℕ) × (has a c ≡ true) × (has b c ≡ true)
shared a b h n = let x = lowest_shared a b h n in (count_trailing_zeros 32 (bit_and a b), x.0, x.1)

pub not_shared : (a b c : ℕ) → bit_and a b ≡ 0 → has a c ≡ true → has b c ≡ true → ⊥
not_shared a b c z p q = clash (has-and c a b ∙ rw (p, q)) (ap (λ (x : ℕ). has x c) z ∙ has-zero c)
