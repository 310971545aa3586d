-- The marks that two groups have both, counted at once: the ones of what `&` leaves of them.
use Rattle.std.proofs.Common.{◌≡◌, refl, sym, ap, ap₂, ◌∙◌, ℕ, zero, suc, ◌+◌, ◌*◌, ◌/◌, ◌%◌, ◌^◌, ◌<◌, arith}
use Prim.Native.Nat.{min}
use native.Mathlib.Numerals.{add-one}
use lib.Bits.{bit_and, and_step}
use lib.Count.{ones, ones_step}
use lib.Pow.{mod-pow-add}
use Rattle.ground.proofs.Cases.{mark}
use Rattle.profiles.specs.Profiles.{common}

-- one mark
mark_both : (x y : ℕ) → x < 2 → y < 2 → min x y ≡ x * y
mark_both x y lx ly =
    mark (λ (x : ℕ). min x y ≡ x * y) x lx
    (mark (λ (y : ℕ). min 0 y ≡ 0 * y) y ly refl refl) (mark (λ (y : ℕ). min 1 y ≡ 1 * y) y ly refl refl)

pub common_ones : (m a b : ℕ) → ones (bit_and a b % 2 ^ m) ≡ common m a b
unfolding common ones
common_ones zero a b = let e : bit_and a b % 2 ^ 0 ≡ 0 = omega arith in ap ones e
common_ones (suc m) a b =
    let x = bit_and a b in
    let s = and_step a b in
    let rest : x / 2 ≡ bit_and (a / 2) (b / 2) = omega (arith, s) in
    let here : x % 2 ≡ a % 2 * (b % 2) = omega (arith, s, mark_both (a % 2) (b % 2) (omega arith) (omega arith)) in
    let t : x % 2 ^ suc m ≡ x / 2 % 2 ^ m * 2 + x % 2 = ap (λ (n : ℕ). x % 2 ^ n) (sym (add-one m)) ∙ mod-pow-add x m 1 in
    let h : x % 2 ^ suc m / 2 ≡ x / 2 % 2 ^ m = omega arith in
    let v : x % 2 ^ suc m % 2 ≡ x % 2 = omega arith in
    omega (arith, ones_step (x % 2 ^ suc m), ap ones h, v, ap (λ (y : ℕ). ones (y % 2 ^ m)) rest, common_ones m (a / 2) (b / 2), here)

-- the marks of a & b are those of both

both_itself : (x y : ℕ) → x < 2 → y < 2 → min x y * min x y ≡ x * y
both_itself x y lx ly =
    mark (λ (x : ℕ). min x y * min x y ≡ x * y) x lx
    (mark (λ (y : ℕ). min 0 y * min 0 y ≡ 0 * y) y ly refl refl) (mark (λ (y : ℕ). min 1 y * min 1 y ≡ 1 * y) y ly refl refl)

pub common-and : (m a b : ℕ) → common m (bit_and a b) (bit_and a b) ≡ common m a b
unfolding common
common-and zero a b = refl
common-and (suc m) a b =
    let s = and_step a b in
    let rest : bit_and a b / 2 ≡ bit_and (a / 2) (b / 2) = omega (arith, s) in
    let here : bit_and a b % 2 ≡ min (a % 2) (b % 2) = omega (arith, s) in
    ap₂ (λ (x y : ℕ). x + y) (ap (λ (z : ℕ). common m z z) rest ∙ common-and m (a / 2) (b / 2))
    (ap (λ (z : ℕ). z * z) here ∙ both_itself (a % 2) (b % 2) (omega arith) (omega arith))
