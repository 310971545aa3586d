-- A cube, read from its highest mark on: what has come is the pattern of a box over fewer marks, and each sign behind it makes another.
use Prim.Native.Nat.{ℕ, ◌+◌, ◌*◌, ◌^◌, ◌<◌}
use mathlib.Core.Path.{◌≡◌, refl, sym, ap, ap₂, ◌∙◌}
use mathlib.Core.List.{List, [], ◌∷◌, ◌++◌}
use native.Mathlib.Nat.{pow-suc, pow-le-pow_right}
use native.Mathlib.Numerals.{add-one}
use native.Mathlib.Omega.{arith}
use Rattle.std.specs.Prelude.{Some, None}
use lib.ListN.{length, get_or, take}
use lib.Seq.{take-suc, take_all}
use Rattle.print.specs.Texts.{sign, pattern}
use Rattle.print.proofs.Digits.{pattern-length, pattern_grows, pattern-sign}
use Rattle.sheet.specs.Limits.{most_marks}
use Rattle.pla_lines.specs.Parts.{Signed, Boxed, is, none}

-- the first i signs are those of the box b
pub record Signs (w : List ℕ) (i b : ℕ) : Type 0 where
  pub small : b < 3 ^ i
  pub text : take i w ≡ pattern i b

-- a byte read as a sign

pub signed : {c d : ℕ} → Signed c (Some d) → (d < 3) × (c ≡ sign d)
signed (is l e) = (l, e)

pub unsigned : {c : ℕ} → Signed c None → (e : ℕ) → e < 3 → c ≡ sign e → ⊥
unsigned (none q) = q

-- a box over fewer than five marks
pub box_small : (i b : ℕ) → b < 3 ^ i → i < most_marks → b < 81
box_small i b h l = omega (arith, pow-le-pow_right {n = 3} (omega arith) {i = i} {j = 4} (omega arith))

module _ (w : List ℕ) where
  pub signs_none : Signs w 0 0
  unfolding pattern
  signs_none = record { small = omega arith; text = refl }

  pub signs_more : (i b d : ℕ) → Signs w i b → i < length w → d < 3 → get_or w i 0 ≡ sign d → Signs w (i + 1) (b * 3 + d)
  signs_more i b d s h l e =
      rw (add-one i) (record {
        small = omega (arith, s.small, pow-suc 3 i);
        text = take-suc w i 0 h ∙ ap₂ (λ (x : List ℕ) (y : ℕ). x ++ y ∷ []) s.text e ∙ sym (pattern_grows i b d l);
      })

  module _ (m : ℕ) where
    pub cube_read : (b : ℕ) → Signs w m b → length w ≡ m → Boxed m w (Some b)
    cube_read b s l = is s.small (sym (take_all m w (omega arith)) ∙ s.text)

    -- another length, and a byte that is no sign

    pub cube_long : (length w ≡ m → ⊥) → Boxed m w None
    cube_long other = none (λ b h e. other (ap length e ∙ pattern-length m b))

    pub cube_other : (i : ℕ) → i < m → ((d : ℕ) → d < 3 → get_or w i 0 ≡ sign d → ⊥) → Boxed m w None
    cube_other i h other = none (λ b l e. let s = pattern-sign m b i h in other s.0 s.1 (ap (λ (x : List ℕ). get_or x i 0) e ∙ s.2))
