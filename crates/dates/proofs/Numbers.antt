-- Numbers of a fixed count of digits, read from the front: one digit more is ten times the number and the digit (`digits_more`).
use Prim.Native.Nat.{ℕ, suc, ◌+◌, ◌*◌, ◌/◌, ◌%◌, ◌^◌, ◌<◌, ◌≤◌}
use mathlib.Core.Path.{◌≡◌, refl, sym, ap, ap₂, ◌∙◌, subst}
use mathlib.Core.List.{List, [], ◌∷◌, ◌++◌}
use native.Mathlib.Nat.{pow-suc}
use native.Mathlib.Numerals.{add-one}
use native.Mathlib.Omega.{arith}
use lib.ListN.{length, get_or, take}
use lib.Seq.{take_all, take-suc}
use Rattle.ground.specs.Figures.{figures}
use Rattle.ground.proofs.Figures.{figures_byte, figures_same}
use Rattle.std.specs.Prelude.{Some, None}
use Rattle.dates.specs.Texts.{digits, Writes, Numbered}

pub writes_same : {k : ℕ} {part : List ℕ} {a b : ℕ} → Writes k part a → Writes k part b → a ≡ b
writes_same {k} {part} {a} {b} p q = figures_same 10 (omega arith) k a b p.small q.small (sym p.text ∙ q.text)

-- a digit behind
digits_more : (k n d : ℕ) → d < 10 → digits (suc k) (n * 10 + d) ≡ digits k n ++ (48 + d) ∷ []
unfolding figures
digits_more k n d h =
    let q : (n * 10 + d) / 10 ≡ n = omega arith in
    let r : (n * 10 + d) % 10 ≡ d = omega arith in
    ap₂ (λ (a b : ℕ). digits k a ++ (48 + b) ∷ []) q r

-- what is read so far: the first i bytes write a number

pub writes_none : (part : List ℕ) → Writes 0 (take 0 part) 0
unfolding figures
writes_none part = record { small = omega arith; text = refl }

pub writes_more : (part : List ℕ) (i n d : ℕ) → Writes i (take i part) n → i < length part → d < 10 → get_or part i 0 ≡ 48 + d
    → Writes (i + 1) (take (i + 1) part) (n * 10 + d)
writes_more part i n d w h k e =
    let p = pow-suc 10 i in
    rw (add-one i) (record {
      small = omega (arith, w.small);
      text = take-suc part i 0 h ∙ ap₂ (λ (t : List ℕ) (x : ℕ). t ++ x ∷ []) w.text e ∙ sym (digits_more i n d k);
    })

module _ (part : List ℕ) where
  pub number_read : (i n : ℕ) → length part ≤ i → i ≤ length part → Writes i (take i part) n → Numbered part (Some n)
  number_read i n h k w =
      let e : i ≡ length part = omega arith in
      record { small = subst (λ (j : ℕ). n < 10 ^ j) e w.small; text = sym (take_all i part h) ∙ w.text ∙ ap (λ (j : ℕ). digits j n) e }

  pub number_other : (i : ℕ) → i < length part → ((48 ≤ get_or part i 0) × (get_or part i 0 ≤ 57) → ⊥) → Numbered part None
  number_other i h q =
      λ n w.
      let e : get_or part i 0 ≡ get_or (digits (length part) n) i 0 = ap (λ (t : List ℕ). get_or t i 0) w.text in
      let b = figures_byte 10 (omega arith) (length part) n i h in
      q (omega arith, omega arith)

-- a part of k bytes
pub number_long : {k n : ℕ} {part : List ℕ} → length part ≡ k → Numbered part (Some n) → Writes k part n
number_long {k} {n} {part} e w = subst (λ (j : ℕ). Writes j part n) e w
