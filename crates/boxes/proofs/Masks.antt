-- A box by its two masks, free marks and lowest combination: containment is decided by and/compare.
use Prim.Native.Nat.{ℕ, zero, suc, ◌+◌, ◌*◌, ◌-◌, ◌/◌, ◌%◌, ◌^◌, ◌<◌, ◌≤◌, min}
use mathlib.Core.Bool.{Bool, false, ◌&&◌}
use mathlib.Core.Path.{◌≡◌, refl, sym, ◌∙◌, ap, ap₂}
use native.Mathlib.Nat.{pow-suc, sub-zero, mod-eq_of_lt}
use native.Mathlib.Omega.{arith}
use lib.Dec.{eqb, lit<}
use lib.Bits.{bit_and, and_step, and_mask}
use lib.Pow.{pow_mono}
use borrow.Author.Tests.{eq-eqb, ne_eqb}
use Rattle.boxes.specs.Boxes.{agrees, contains, lowest}
use Rattle.boxes.specs.Parts.{masked}
use Rattle.ground.proofs.Cases.{mark, digit, eqb_pair}
use Rattle.boxes.proofs.Choices.{free_marks, free_marks_lt}

-- the complement of a set of marks, at k bits, mark by mark

pub other_rest : (k t : ℕ) → t < 2 ^ suc k → ((2 ^ suc k - 1) - t) / 2 ≡ (2 ^ k - 1) - t / 2
other_rest k t l = omega (arith, pow-suc 2 k)

pub other_mark : (k t : ℕ) → t < 2 ^ suc k → ((2 ^ suc k - 1) - t) % 2 ≡ 1 - t % 2
other_mark k t l = omega (arith, pow-suc 2 k)

-- c & !t, mark by mark
pub without_step : (k c t : ℕ) → t < 2 ^ suc k
    → bit_and c ((2 ^ suc k - 1) - t) ≡ bit_and (c / 2) ((2 ^ k - 1) - t / 2) * 2 + min (c % 2) (1 - t % 2)
without_step k c t l =
    and_step c ((2 ^ suc k - 1) - t) ∙ ap₂ (λ (x y : ℕ). bit_and (c / 2) x * 2 + min (c % 2) y) (other_rest k t l) (other_mark k t l)

agrees_masked : (d v : ℕ) → d < 3 → v < 2 → eqb (min v (1 - d / 2)) (d % 2) ≡ agrees d v
unfolding agrees
agrees_masked d v hd hv =
    mark (λ (v : ℕ). eqb (min v (1 - d / 2)) (d % 2) ≡ agrees d v) v hv
    (digit (λ (d : ℕ). eqb (min 0 (1 - d / 2)) (d % 2) ≡ agrees d 0) d hd refl refl refl)
    (digit (λ (d : ℕ). eqb (min 1 (1 - d / 2)) (d % 2) ≡ agrees d 1) d hd refl refl refl)

-- the test `c & !free == on`, at k bits
pub contains-masked : (m k b c : ℕ) → m ≤ k → b < 3 ^ m → c < 2 ^ k → eqb (bit_and c ((2 ^ k - 1) - free_marks m b)) (lowest m b) ≡ contains m b c
unfolding contains free_marks lowest
contains-masked zero k b c h lb lc =
    ap (λ (n : ℕ). eqb n 0) (ap (bit_and c) (sub-zero (2 ^ k - 1)) ∙ and_mask c k ∙ mod-eq_of_lt lc)
    ∙ ap (λ (t : Bool). t && eqb c 0) (sym (eq-eqb b 0 (omega arith)))
contains-masked (suc m) zero b c h lb lc = absurd (omega arith)
contains-masked (suc m) (suc k) b c h lb lc =
    let f = free_marks m (b / 3) in
    let o = lowest m (b / 3) in
    let lf : f < 2 ^ m = free_marks_lt m (b / 3) in
    let le : 2 ^ m ≤ 2 ^ k = pow_mono {i = m} {j = k} (omega arith) in
    let r : (f * 2 + b % 3 / 2) / 2 ≡ f = omega arith in
    let v : (f * 2 + b % 3 / 2) % 2 ≡ b % 3 / 2 = omega arith in
    let i = contains-masked m k (b / 3) (c / 2) (omega arith) (omega (arith, pow-suc 3 m)) (omega (arith, pow-suc 2 k)) in
    ap (λ (n : ℕ). eqb n (o * 2 + b % 3 % 2))
    (without_step k c (f * 2 + b % 3 / 2) (omega (arith, pow-suc 2 k)) ∙ ap₂ (λ (x y : ℕ). bit_and (c / 2) ((2 ^ k - 1) - x) * 2 + min (c % 2) (1 - y)) r v)
    ∙ eqb_pair (bit_and (c / 2) ((2 ^ k - 1) - f)) o (min (c % 2) (1 - b % 3 / 2)) (b % 3 % 2) (omega arith) (omega arith)
    ∙ ap₂ (λ (x y : Bool). x && y) (agrees_masked (b % 3) (c % 2) (omega arith) (omega arith)) i

-- a number that wants on a mark that it has free agrees with nothing
pub masked_none : (c : ℕ) → masked 1 1 c ≡ false
masked_none c =
    let e = without_step 63 c 1 (lit< tt) in
    ne_eqb (bit_and c ((2 ^ 64 - 1) - 1)) 1 (λ (w : bit_and c ((2 ^ 64 - 1) - 1) ≡ 1). omega arith)
