-- The combinations of a test as bits, one by one: what stands after those below c. So the counts' zeros, and their `&`, are what a list may and must
-- cover.
use Prim.Native.Nat.{ℕ, ◌+◌, ◌*◌, ◌^◌, ◌<◌, ◌≤◌}
use mathlib.Core.Path.{◌≡◌, refl, sym, ◌∙◌, ap, ap₂, fun_ext}
use mathlib.Core.Bool.{Bool, true, false, ◌&&◌}
use mathlib.Core.List.{List}
use native.Mathlib.Omega.{arith}
use lib.Bits.{bit_and, and_le_l}
use lib.Dec.{eqb, ltb}
use borrow.Author.Tests.{lt-ltb, le-ltb}
use Rattle.ground.proofs.Cases.{below_or, same_or}
use Rattle.boxes.proofs.Numbers.{power_next}
use Rattle.sets.specs.Sets.{has}
use Rattle.sets.proofs.Bits.{has-and, has-zero, has_high, has_top, has_under}
use Rattle.tables.specs.Tables.{own}
use Rattle.sheet.specs.Record.{sheet_with}
use Rattle.sheet.proofs.Told.{told_in, told_not_out}
use Rattle.listing.specs.Parts.{BitsOf}

-- the combinations whose own count is 0
abbrev pub inside : ℕ → List ℕ → ℕ → Bool
inside m t c = eqb (own m t c) 0

-- u has the combinations of the test that are below c
pub record Filled (test : ℕ → Bool) (c u : ℕ) : Type 0 where
  pub small : u < 2 ^ c
  pub bits : (k : ℕ) → has u k ≡ (ltb k c && test k)

pub filled_none : (test : ℕ → Bool) → Filled test 0 0
filled_none test = record {
  small = omega arith;
  bits = λ k. has-zero k ∙ sym (ap (λ (t : Bool). t && test k) (le-ltb k 0 (omega arith)));
}

module _ {test : ℕ → Bool} {c u : ℕ} (f : Filled test c u) where
  above : (v : ℕ) → v < 2 ^ (c + 1) → (k : ℕ) → c + 1 ≤ k → has v k ≡ (ltb k (c + 1) && test k)
  above v l k h = has_high (c + 1) k v l h ∙ sym (ap (λ (t : Bool). t && test k) (le-ltb k (c + 1) h))

  below : (k : ℕ) → k < c → has u k ≡ (ltb k (c + 1) && test k)
  below k l = f.bits k ∙ ap (λ (t : Bool). t && test k) (lt-ltb k c l ∙ sym (lt-ltb k (c + 1) (omega arith)))

  pub filled_in : test c ≡ true → Filled test (c + 1) (1 * 2 ^ c + u)
  filled_in e =
      let p = power_next 2 c in
      let small : 1 * 2 ^ c + u < 2 ^ (c + 1) = omega (arith, f.small) in
      record {
        small = small;
        bits = λ k. below_or k c
            (λ l. has_under c u k f.small l ∙ below k l)
            (λ l. same_or k c
            (λ q. ap (has (1 * 2 ^ c + u)) q ∙ has_top c u f.small ∙ sym (ap (λ (x : ℕ). ltb x (c + 1) && test x) q ∙ rw (lt-ltb c (c + 1) (omega arith)) e))
            (λ n. above (1 * 2 ^ c + u) small k (omega arith)));
      }

  pub filled_out : test c ≡ false → Filled test (c + 1) u
  filled_out e =
      let p = power_next 2 c in
      let small : u < 2 ^ (c + 1) = omega (arith, f.small) in
      record {
        small = small;
        bits = λ k. below_or k c
            (λ l. below k l)
            (λ l. same_or k c
            (λ q. ap (has u) q ∙ has_high c c u f.small (omega arith) ∙ sym (ap (λ (x : ℕ). ltb x (c + 1) && test x) q ∙ rw (lt-ltb c (c + 1) (omega arith)) e))
            (λ n. above u small k (omega arith)));
      }

pub filled-all : {test : ℕ → Bool} {c u : ℕ} → Filled test c u → has u ≡ (λ k. ltb k c && test k)
filled-all f = fun_ext f.bits

-- the zeros of the outside counts are not out, and those that are zeros of the either counts as well are in

both : (low x y : Bool) → ((low && x) && (low && y)) ≡ (low && (x && y))
both true x y = refl
both false x y = refl

abbrev Zeros : ℕ → List ℕ → ℕ → Type 0
Zeros m t u = has u ≡ (λ c. ltb c (2 ^ m) && inside m t c)

pub bits_of : (m : ℕ) (outside either : List ℕ) (x y : ℕ) → x < 2 ^ (2 ^ m) → Zeros m outside x → Zeros m either y
    → BitsOf m outside either (record { need = bit_and x y; room = x })
bits_of m outside either x y small hx hy = record {
  small = omega (arith, and_le_l x y);
  need = λ p held. fun_ext
      (λ c. has-and c x y ∙ ap₂ (λ (f g : ℕ → Bool). f c && g c) hx hy ∙ both (ltb c (2 ^ m)) (inside m outside c) (inside m either c)
      ∙ sym (told_in (sheet_with m p outside either held) c));
  room = λ p held. hx ∙ fun_ext (λ c. sym (told_not_out (sheet_with m p outside either held) c));
}
