-- Functions of the combinations, one combination at a time: f with another value at c, and f below n alone, d elsewhere.
use Prim.Native.Nat.{ℕ, suc, ◌≤◌, ◌<◌}
use mathlib.Core.Path.{◌≡◌, refl, sym, ap, ◌∙◌, fun_ext}
use mathlib.Core.Bool.{Bool, cond}
use native.Mathlib.Omega.{arith}
use lib.Dec.{ltb}
use borrow.Author.Tests.{lt-ltb, le-ltb, eq-eqb, ne_eqb}
use Rattle.ground.proofs.Cases.{below_or, same_or}
use Rattle.sheet.specs.Record.{updated}

module _ {A : Type 0} (c : ℕ) (v : A) (f : ℕ → A) where
  pub updated_here : updated c v f c ≡ v
  updated_here = ap (λ (b : Bool). cond b v (f c)) (eq-eqb c c refl)

  pub updated_other : (x : ℕ) → (x ≡ c → ⊥) → updated c v f x ≡ f x
  updated_other x n = ap (λ (b : Bool). cond b v (f x)) (ne_eqb x c n)

-- f with v at c is any g that has v there and is f elsewhere
pub updated-is : {A : Type 0} (c : ℕ) (v : A) (f g : ℕ → A) → g c ≡ v → ((x : ℕ) → (x ≡ c → ⊥) → g x ≡ f x) → updated c v f ≡ g
updated-is c v f g here other =
    fun_ext (λ x. same_or x c
    (λ q. ap (updated c v f) q ∙ updated_here c v f ∙ sym here ∙ ap g (sym q))
    (λ n. updated_other c v f x n ∙ sym (other x n)))

-- what does not tell v from the value that it replaces tells no change
pub updated_keeps : {A B : Type 0} (p : A → B) (c : ℕ) (v : A) (f : ℕ → A) → p v ≡ p (f c) → (x : ℕ) → p (updated c v f x) ≡ p (f x)
updated_keeps p c v f e x =
    same_or x c (λ q. ap (λ (y : ℕ). p (updated c v f y)) q ∙ ap p (updated_here c v f) ∙ e ∙ ap (λ (y : ℕ). p (f y)) (sym q)) (λ n. ap p (updated_other c v f x n))

abbrev pub up_to : {A : Type 0} → A → ℕ → (ℕ → A) → ℕ → A
up_to d n f x = cond (ltb x n) (f x) d

module _ {A : Type 0} (d : A) (f : ℕ → A) where
  pub up_to_low : (n x : ℕ) → x < n → up_to d n f x ≡ f x
  up_to_low n x l = ap (λ (b : Bool). cond b (f x) d) (lt-ltb x n l)

  pub up_to_high : (n x : ℕ) → n ≤ x → up_to d n f x ≡ d
  up_to_high n x l = ap (λ (b : Bool). cond b (f x) d) (le-ltb x n l)

  pub up_to_none : up_to d 0 f ≡ (λ x. d)
  up_to_none = fun_ext (λ x. up_to_high 0 x (omega arith))

  pub up_to_next : (n x : ℕ) → (x ≡ n → ⊥) → up_to d n f x ≡ up_to d (suc n) f x
  up_to_next n x q =
      below_or x n (λ l. up_to_low n x l ∙ sym (up_to_low (suc n) x (omega arith))) (λ l. up_to_high n x l ∙ sym (up_to_high (suc n) x (omega arith)))

  here : (n x : ℕ) → x ≡ n → up_to d (suc n) f x ≡ f n
  here n x q = up_to_low (suc n) x (omega arith) ∙ ap f q

  pub up_to_skip : (n : ℕ) → f n ≡ d → up_to d n f ≡ up_to d (suc n) f
  up_to_skip n e = fun_ext (λ x. same_or x n (λ q. up_to_high n x (omega arith) ∙ sym e ∙ sym (here n x q)) (λ q. up_to_next n x q))

  pub up_to_updated : (n : ℕ) → updated n (f n) (up_to d n f) ≡ up_to d (suc n) f
  up_to_updated n = updated-is n (f n) (up_to d n f) (up_to d (suc n) f) (here n n refl) (λ x q. sym (up_to_next n x q))
