-- A number, read from its first digit on: what has come is written as some number, and each digit behind it makes another.
use Prim.Native.Nat.{ℕ, ◌+◌, ◌-◌, ◌*◌, ◌≤◌, ◌<◌}
use mathlib.Core.Path.{◌≡◌, sym, ap, ◌∙◌, subst}
use mathlib.Core.List.{List, [], ◌∷◌, ◌++◌}
use native.Mathlib.Numerals.{add-one}
use native.Mathlib.Omega.{arith}
use Rattle.std.specs.Prelude.{Some, None}
use lib.ListN.{length, get_or, take, drop, length-drop, take-append-drop}
use lib.Seq.{take-suc, take_all}
use Rattle.print.specs.Texts.{decimal}
use Rattle.print.proofs.Digits.{decimal_small, decimal_grows}
use Rattle.clock.proofs.ReadsBack.{decimal_numeral, decimal_digit, decimal_plain}
use Rattle.pla_lines.specs.Parts.{capped, Numbered, is, none}

-- the first i bytes are the digits of a number that is told as n
pub data Told (w : List ℕ) (i n : ℕ) : Type 0 where
  nothing : i ≡ 0 → n ≡ 0 → Told w i n
  digits : (k : ℕ) → 0 < i → take i w ≡ decimal k → n ≡ capped k → Told w i n

module _ (w : List ℕ) where
  more : (i : ℕ) → i < length w → 48 ≤ get_or w i 0 → take (i + 1) w ≡ take i w ++ (48 + (get_or w i 0 - 48)) ∷ []
  more i h low = let e : get_or w i 0 ≡ 48 + (get_or w i 0 - 48) = omega arith in rw (add-one i) (take-suc w i 0 h ∙ ap (λ (c : ℕ). take i w ++ c ∷ []) e)

  pub told_more : (i n : ℕ) → Told w i n → i < length w → 48 ≤ get_or w i 0 → get_or w i 0 ≤ 57 → (0 < i → 0 < n)
      → Told w (i + 1) (capped (n * 10 + (get_or w i 0 - 48)))
  told_more i n (nothing e z) h low high plain =
      let d = get_or w i 0 - 48 in
      digits d (omega arith) (more i h low ∙ ap (λ (j : ℕ). take j w ++ (48 + d) ∷ []) e ∙ sym (decimal_small d (omega arith))) (omega arith)
  told_more i n (digits k j e z) h low high plain =
      let d = get_or w i 0 - 48 in
      digits (k * 10 + d) (omega arith)
      (more i h low ∙ ap (λ (x : List ℕ). x ++ (48 + d) ∷ []) e ∙ sym (decimal_grows k d (omega (arith, plain j)) (omega arith))) (omega arith)

  pub number_read : (i n : ℕ) → Told w i n → length w ≤ i → 0 < length w → Numbered w (Some n)
  number_read i n (nothing e z) l h = absurd (omega arith)
  number_read i n (digits k j e z) l h = is k (sym (take_all i w l) ∙ e) z

  -- no byte, a byte that is no digit, and a byte behind `0`

  pub number_empty : length w ≡ 0 → Numbered w None
  number_empty h = none (λ n e. omega (arith, (decimal_numeral n).some, ap length e))

  pub number_other : (i : ℕ) → i < length w → ((48 ≤ get_or w i 0) × (get_or w i 0 ≤ 57) → ⊥) → Numbered w None
  number_other i h other = none (λ n e. other (subst (λ (x : List ℕ). (48 ≤ get_or x i 0) × (get_or x i 0 ≤ 57)) (sym e) (decimal_digit n i (omega (arith, ap length e)))))

  pub number_zero : (i n : ℕ) → Told w i n → n ≡ 0 → 0 < i → i < length w → Numbered w None
  number_zero i n (nothing e z) q h l = absurd (omega arith)
  number_zero i n (digits k j e z) q h l =
      let zero : k ≡ 0 = omega arith in
      let text : w ≡ 48 ∷ drop i w = sym (take-append-drop i w) ∙ ap (λ (x : List ℕ). x ++ drop i w) (e ∙ ap decimal zero ∙ decimal_small 0 (omega arith)) in
      none (λ n f. omega (arith, ap length (decimal_plain n (drop i w) (sym f ∙ text)), length-drop i w))
