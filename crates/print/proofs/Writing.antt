-- A pattern from its pieces, as `put_pattern` lays them.
use Prim.Native.Nat.{ℕ, zero, suc, ◌-◌, ◌/◌, ◌%◌}
use mathlib.Core.Path.{◌≡◌, refl, sym, ap, ◌∙◌}
use mathlib.Core.List.{[], ◌∷◌, ◌++◌}
use native.Mathlib.Numerals.{unary_clauses}
use Rattle.print.specs.Texts.{sign, pattern}

pattern_lower : (m b : ℕ) → (m ≡ 0 → ⊥) → pattern m b ≡ pattern (m - 1) (b / 3) ++ sign (b % 3) ∷ []
unfolding pattern
pattern_lower zero b h = absurd (h refl)
pattern_lower (suc m) b h = simp unary_clauses

pub pattern_lowest : (m b : ℕ) {d : ℕ} → d ≡ sign (b % 3) → (m ≡ 0 → ⊥) → pattern (m - 1) (b / 3) ++ d ∷ [] ≡ pattern m b
pattern_lowest m b e h = ap (λ (x : ℕ). pattern (m - 1) (b / 3) ++ x ∷ []) e ∙ sym (pattern_lower m b h)

pub pattern_none : (m b : ℕ) → m ≡ 0 → [] ≡ pattern m b
unfolding pattern
pattern_none m b e = rw e
