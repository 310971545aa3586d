-- A pattern tells its box: the digits of its signs, from the left, make up the box's number (`box_of`).
use Prim.Native.Nat.{ℕ, zero, suc, ◌+◌, ◌-◌, ◌*◌, ◌/◌, ◌%◌, ◌^◌, ◌<◌}
use mathlib.Core.Path.{◌≡◌, refl, sym, ap, ap₂, ◌∙◌}
use mathlib.Core.Bool.{cond}
use mathlib.Core.List.{List, [], ◌∷◌, ◌++◌}
use native.Mathlib.Nat.{pow-suc, pow-succ', pow-zero, div-one, div-div-eq-div-mul}
use native.Mathlib.Omega.{arith}
use lib.Dec.{eqb}
use lib.ListN.{get_or, get_or-append}
use lib.Seq.{get_or_at}
use Rattle.ground.proofs.Cases.{digit}
use Rattle.print.specs.Texts.{sign, pattern}
use Rattle.print.proofs.Digits.{pattern-length, pattern-sign}

-- the digit of a sign
abbrev sign_digit : ℕ → ℕ
sign_digit c = cond (eqb c 45) 2 (c - 48)

-- the number of the box with the digits of n and then those of the signs of w
box_from : ℕ → List ℕ → ℕ
box_from n [] = n
box_from n (c ∷ w) = box_from (n * 3 + sign_digit c) w

from_last : (n : ℕ) (w : List ℕ) (c : ℕ) → box_from n (w ++ c ∷ []) ≡ box_from n w * 3 + sign_digit c
unfolding box_from
from_last n [] c = refl
from_last n (a ∷ w) c = from_last (n * 3 + sign_digit a) w c

digit_of_sign : (d : ℕ) → d < 3 → sign_digit (sign d) ≡ d
digit_of_sign d l = digit (λ (x : ℕ). sign_digit (sign x) ≡ x) d l refl refl refl

pub box_of : List ℕ → ℕ
box_of w = box_from 0 w

pub pattern_box : (m b : ℕ) → b < 3 ^ m → box_of (pattern m b) ≡ b
unfolding pattern box_of box_from
pattern_box zero b l = omega (arith, pow-zero 3)
pattern_box (suc m) b l =
    from_last 0 (pattern m (b / 3)) (sign (b % 3))
    ∙ ap₂ (λ (x y : ℕ). x * 3 + y) (pattern_box m (b / 3) (omega (arith, pow-suc 3 m))) (digit_of_sign (b % 3) (omega arith))
    ∙ omega arith

-- a pattern does not begin with a point
pub no_point : (m b : ℕ) → get_or (pattern m b) 0 0 ≡ 46 → ⊥
unfolding pattern
no_point zero b e = omega arith
no_point (suc m) b e =
    let d = pattern-sign (suc m) b 0 (omega arith) in
    digit (λ (x : ℕ). sign x ≡ 46 → ⊥) d.0 d.1 (λ q. omega arith) (λ q. omega arith) (λ q. omega arith) (sym d.2 ∙ e)

-- highest mark first: mark i stands i places before the last
pub pattern_mark : (m b i : ℕ) → i < m → get_or (pattern m b) (m - 1 - i) 0 ≡ sign (b / 3 ^ i % 3)
unfolding pattern
pattern_mark zero b i l = absurd (omega arith)
pattern_mark (suc m) b zero l =
    get_or_at (pattern m (b / 3)) (sign (b % 3)) [] 0 (suc m - 1 - 0) (omega (arith, pattern-length m (b / 3)))
    ∙ ap (λ (x : ℕ). sign (x % 3)) (sym (div-one b) ∙ ap (λ (x : ℕ). b / x) (sym (pow-zero 3)))
pattern_mark (suc m) b (suc i) l =
    let place : suc m - 1 - suc i ≡ m - 1 - i = omega arith in
    ap (λ (k : ℕ). get_or (pattern m (b / 3) ++ sign (b % 3) ∷ []) k 0) place
    ∙ get_or-append (pattern m (b / 3)) (sign (b % 3) ∷ []) 0 (m - 1 - i) (omega (arith, pattern-length m (b / 3)))
    ∙ pattern_mark m (b / 3) i (omega arith)
    ∙ ap (λ (x : ℕ). sign (x % 3)) (div-div-eq-div-mul b 3 (3 ^ i) ∙ ap (λ (x : ℕ). b / x) (sym (pow-succ' 3 i)))
