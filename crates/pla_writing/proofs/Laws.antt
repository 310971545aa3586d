-- How long the text is, and its lines, one more at a time.
use Prim.Native.Nat.{ℕ, suc, ◌+◌, ◌*◌, ◌/◌, ◌≤◌, ◌<◌}
use mathlib.Core.Path.{◌≡◌, refl, sym, ap, ◌∙◌}
use mathlib.Core.List.{List, [], ◌∷◌, ◌++◌, append_assoc, append-nil}
use native.Mathlib.Nat.{suc-mul, zero-mul, mul-le-mul_right}
use native.Mathlib.Numerals.{add-one}
use native.Mathlib.Omega.{arith}
use lib.ListN.{length, get_or, take, length-append}
use lib.Seq.{take-suc, length-take-le}
use Rattle.ground.specs.Texts.{ascii}
use Rattle.print.specs.Texts.{decimal, pattern}
use Rattle.print.specs.Pages.{Puts}
use Rattle.print.specs.declared.page.Page.{Page}
use Rattle.print.proofs.Pages.{puts_then, puts_text}
use Rattle.print.proofs.Digits.{decimal_small, decimal_more, pattern-length}
use Rattle.pla.specs.Writing.{cube_lines, pla_text}

-- lengths

pub lines_length : (m : ℕ) (l : List ℕ) → length (cube_lines m l) ≡ length l * (m + 3)
unfolding cube_lines
lines_length m [] = sym (zero-mul (m + 3))
lines_length m (b ∷ l) =
    omega (
      arith,
      length-append (pattern m b ++ ascii " 1\n") (cube_lines m l),
      length-append (pattern m b) (ascii " 1\n"),
      pattern-length m b,
      lines_length m l,
      suc-mul (length l) (m + 3),
    )

pub text_length : (m : ℕ) (l : List ℕ) → length (pla_text m l) ≡ 16 + length (decimal m) + length (decimal (length l)) + length (cube_lines m l)
unfolding pla_text
text_length m l =
    let a = ascii ".i " ++ decimal m in
    let b = a ++ ascii "\n.o 1\n.p " in
    let c = b ++ decimal (length l) in
    let d = c ++ ascii "\n" in
    omega (
      arith,
      length-append a (ascii "\n.o 1\n.p "),
      length-append b (decimal (length l)),
      length-append c (ascii "\n"),
      length-append d (cube_lines m l),
      length-append (d ++ cube_lines m l) (ascii ".e\n"),
    )

-- a number below 100 has one digit or two
pub one_digit : (n : ℕ) → n < 10 → length (decimal n) ≡ 1
one_digit n h = ap length (decimal_small n h)

pub two_digits : (n : ℕ) → 10 ≤ n → n < 100 → length (decimal n) ≡ 2
two_digits n h l = omega (arith, decimal_more n h, one_digit (n / 10) (omega arith))

-- the lines, one more at a time

lines_append : (m : ℕ) (a b : List ℕ) → cube_lines m (a ++ b) ≡ cube_lines m a ++ cube_lines m b
unfolding cube_lines
lines_append m [] b = refl
lines_append m (x ∷ a) b =
    let line = pattern m x ++ ascii " 1\n" in
    ap (λ (t : List ℕ). line ++ t) (lines_append m a b) ∙ sym (append_assoc line (cube_lines m a) (cube_lines m b))

module _ (m : ℕ) (l : List ℕ) (i : ℕ) (h : i < length l) where
  lines_more : cube_lines m (take (i + 1) l) ≡ cube_lines m (take i l) ++ (pattern m (get_or l i 0) ++ ascii " 1\n")
  unfolding cube_lines
  lines_more =
      rw (add-one i, take-suc l i 0 h) (lines_append m (take i l) (get_or l i 0 ∷ [])
      ∙ ap (λ (t : List ℕ). cube_lines m (take i l) ++ t) (append-nil (pattern m (get_or l i 0) ++ ascii " 1\n")))

  -- there is room for one more
  pub line_has_room : length (cube_lines m (take i l)) + m + 3 ≤ length (cube_lines m l)
  line_has_room =
      omega (
        arith,
        lines_length m l,
        lines_length m (take i l),
        ap (λ (n : ℕ). n * (m + 3)) (length-take-le i l (omega arith)),
        suc-mul i (m + 3),
        mul-le-mul_right {m = suc i} {n = length l} (m + 3) h,
      )

  pub line_put : {p q r s : Page} {b : ℕ} → b ≡ get_or l i 0 → Puts p q (cube_lines m (take i l)) → Puts q r (pattern m b) → Puts r s (ascii " 1\n")
      → Puts p s (cube_lines m (take (i + 1) l))
  line_put {b = b} e before p q =
      let t = cube_lines m (take i l) in
      puts_text (append_assoc t (pattern m b) (ascii " 1\n") ∙ ap (λ (x : ℕ). t ++ (pattern m x ++ ascii " 1\n")) e ∙ sym lines_more) (puts_then (puts_then before p) q)

-- the text, from its seven pieces
pub text_put : (m : ℕ) (l : List ℕ) {p₀ p₁ p₂ p₃ p₄ p₅ p₆ p₇ : Page} → Puts p₀ p₁ (ascii ".i ") → Puts p₁ p₂ (decimal m) → Puts p₂ p₃ (ascii "\n.o 1\n.p ")
    → Puts p₃ p₄ (decimal (length l)) → Puts p₄ p₅ (ascii "\n") → Puts p₅ p₆ (cube_lines m l) → Puts p₆ p₇ (ascii ".e\n") → Puts p₀ p₇ (pla_text m l)
unfolding pla_text
text_put m l a b c d e f g = puts_then (puts_then (puts_then (puts_then (puts_then (puts_then a b) c) d) e) f) g
