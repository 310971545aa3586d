-- P, read from its highest mark on: the first i characters write what is read so far (`Front`), and each sets the mark behind them.
use Rattle.std.proofs.Common.{◌≡◌, ℕ, suc, ◌+◌, ◌*◌, ◌/◌, ◌%◌, ◌^◌, ◌<◌, ◌≤◌, List, [], ◌∷◌, ◌++◌, Some, None, length, get_or, take, arith, refl, sym, ap, ap₂, ◌∙◌, subst, add-one, pow-suc, take-suc, take_all}
use Rattle.ground.specs.Figures.{figures}
use Rattle.ground.proofs.Figures.{figures-length, figures_byte}
use Rattle.lines.specs.Words.{written}
use Rattle.lines.specs.Parts.{Patterned}

-- a mark behind
written_more : (k n d : ℕ) → d < 2 → written (suc k) (n * 2 + d) ≡ written k n ++ (48 + d) ∷ []
unfolding figures
written_more k n d h =
    let q : (n * 2 + d) / 2 ≡ n = omega arith in
    let r : (n * 2 + d) % 2 ≡ d = omega arith in
    ap₂ (λ (a b : ℕ). written k a ++ (48 + b) ∷ []) q r

-- the first i characters write n
pub record Front (part : List ℕ) (i n : ℕ) : Type 0 where
  pub small : n < 2 ^ i
  pub text : take i part ≡ written i n

pub front_none : (part : List ℕ) → Front part 0 0
unfolding figures
front_none part = record { small = omega arith; text = refl }

pub front_more : (part : List ℕ) (i n d : ℕ) → Front part i n → i < length part → d < 2 → get_or part i 0 ≡ 48 + d → Front part (i + 1) (n * 2 + d)
front_more part i n d w h k e =
    let p = pow-suc 2 i in
    rw (add-one i) (record {
      small = omega (arith, w.small);
      text = take-suc part i 0 h ∙ ap₂ (λ (t : List ℕ) (x : ℕ). t ++ x ∷ []) w.text e ∙ sym (written_more i n d k);
    })

module _ (m : ℕ) (part : List ℕ) where
  pub pattern_long : (length part ≡ m → ⊥) → Patterned m part None
  pattern_long n = λ c w. n (ap length w.text ∙ figures-length 2 m c)

  pub pattern_other : (i : ℕ) → i < m → ((48 ≤ get_or part i 0) × (get_or part i 0 ≤ 49) → ⊥) → Patterned m part None
  pattern_other i h n =
      λ c w.
      let e : get_or part i 0 ≡ get_or (written m c) i 0 = ap (λ (l : List ℕ). get_or l i 0) w.text in
      let b = figures_byte 2 (omega arith) m c i h in
      n (omega arith, omega arith)

  pub pattern_read : (i n : ℕ) → length part ≡ m → i ≡ m → Front part i n → Patterned m part (Some n)
  pattern_read i n h e w = record {
    small = subst (λ (j : ℕ). n < 2 ^ j) e w.small;
    text = sym (take_all i part (omega arith)) ∙ w.text ∙ ap (λ (j : ℕ). written j n) e;
  }
