-- Cases inside a term, with what is known in each: of a test, of two numbers, of a mark and of a digit.
use Prim.Native.Nat.{ℕ, zero, suc, ◌*◌, ◌+◌, ◌<◌, ◌≤◌}
use mathlib.Core.Bool.{Bool, true, false, ◌&&◌, true≢false}
use mathlib.Core.Path.{◌≡◌, refl, sym, ◌∙◌}
use native.Mathlib.Omega.{arith}
use Rattle.ground.specs.Decides.{Decides}
use lib.Dec.{eqb, ltb}
use borrow.Author.Tests.{ltb-true, ltb-false, eqb-true, eqb-false, eq-eqb, ne_eqb}

pub if : {P : Type 0} (t : Bool) → (t ≡ true → P) → (t ≡ false → P) → P
if true yes_then no_then = yes_then refl
if false yes_then no_then = no_then refl

-- no test has both outcomes
pub clash : {P : Type 0} {t : Bool} → t ≡ true → t ≡ false → P
clash {P} {t} y n = absurd (true≢false (sym y ∙ n))

-- a test that decides a statement
pub denied : {P : Type 0} {t : Bool} → Decides t P → t ≡ false → P → ⊥
denied d e p = clash (d.sure p) e

pub decided_yes : {P : Type 0} {t : Bool} → t ≡ true → P → Decides t P
decided_yes e p = record { yes = λ w. p; sure = λ w. e }

pub decided_no : {P : Type 0} {t : Bool} → t ≡ false → (P → ⊥) → Decides t P
decided_no e n = record { yes = λ w. clash w e; sure = λ p. absurd (n p) }

-- the first test has passed, and the answer is the second's
pub decided_both : {P Q : Type 0} {t u : Bool} → P → Decides u Q → t ≡ u → Decides t (P × Q)
decided_both p d e = record { yes = λ y. (p, d.yes (sym e ∙ y)); sure = λ q. e ∙ d.sure q.1 }

-- a is below b, or b at most a
pub below_or : {P : Type 0} (a b : ℕ) → (a < b → P) → (b ≤ a → P) → P
below_or a b below above = if (ltb a b) (λ e. below (ltb-true a b e)) (λ e. above (ltb-false a b e))

pub same_or : {P : Type 0} (a b : ℕ) → (a ≡ b → P) → ((a ≡ b → ⊥) → P) → P
same_or a b same other = if (eqb a b) (λ e. same (eqb-true a b e)) (λ e. other (eqb-false a b e))

-- a number is in a range or is not
pub range_or : {P : Type 0} (a z c : ℕ) → ((a ≤ c) × (c ≤ z) → P) → (((a ≤ c) × (c ≤ z) → ⊥) → P) → P
range_or a z c good bad = below_or c a (λ l. bad (λ w. omega (arith, w.0))) (λ l. below_or z c (λ k. bad (λ w. omega (arith, w.1))) (λ k. good (l, k)))

-- a mark is off or on
pub mark : (P : ℕ → Type 0) (v : ℕ) → v < 2 → P 0 → P 1 → P v
mark P zero l off on = off
mark P (suc zero) l off on = on
mark P (suc (suc v)) l off on = absurd (omega arith)

-- a digit is off, on or free
pub digit : (P : ℕ → Type 0) (d : ℕ) → d < 3 → P 0 → P 1 → P 2 → P d
digit P zero l off on free = off
digit P (suc zero) l off on free = on
digit P (suc (suc zero)) l off on free = free
digit P (suc (suc (suc d))) l off on free = absurd (omega arith)

pub and_left : (x y : Bool) → (x && y) ≡ true → x ≡ true
and_left true y e = refl
and_left false y e = e

pub and_right : (x y : Bool) → (x && y) ≡ true → y ≡ true
and_right true y e = e
and_right false true e = refl
and_right false false e = e

-- numbers are equal exactly if their halves and their low bits are
pub eqb_pair : (x y u v : ℕ) → u < 2 → v < 2 → eqb (x * 2 + u) (y * 2 + v) ≡ (eqb u v && eqb x y)
eqb_pair x y u v hu hv = go (eqb u v) refl (eqb x y) refl
  where
    go : (s : Bool) → eqb u v ≡ s → (t : Bool) → eqb x y ≡ t → eqb (x * 2 + u) (y * 2 + v) ≡ (s && t)
    go true e true f = eq-eqb (x * 2 + u) (y * 2 + v) (omega (arith, eqb-true u v e, eqb-true x y f))
    go true e false f = ne_eqb _ _ (λ (w : x * 2 + u ≡ y * 2 + v). eqb-false x y f (omega arith))
    go false e t f = ne_eqb _ _ (λ (w : x * 2 + u ≡ y * 2 + v). eqb-false u v e (omega arith))
