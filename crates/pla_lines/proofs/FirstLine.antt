-- A text by its first line: it goes up to the first newline, and the other lines are those of the text behind the newline.
use Prim.Native.Nat.{ℕ, zero, suc, ◌+◌, ◌≤◌, ◌<◌}
use mathlib.Core.Path.{◌≡◌, refl, sym, ap, ◌∙◌}
use mathlib.Core.Bool.{Bool, not}
use mathlib.Core.List.{List, [], ◌∷◌, ◌++◌, append-nil}
use native.Mathlib.Numerals.{add-one}
use native.Mathlib.Omega.{arith}
use lib.ListN.{length, drop}
use lib.Seq.{append_snoc}
use borrow.Author.Tests.{not-true, not-false}
use Rattle.ground.proofs.Cases.{if}
use Rattle.pla.specs.Texts.{between_from, is_newline, lines_of}
use Rattle.pla_lines.specs.Lines.{first_line}
use Rattle.pla_lines.specs.Parts.{Front}
use Rattle.pla_lines.proofs.Fronts.{front_first, front_next}

abbrev pub in_line : ℕ → Bool
in_line b = not (is_newline b)

pub line_size : (n : ℕ) (t : List ℕ) → Front in_line t n → n ≡ length (first_line t)
unfolding first_line
line_size zero [] f = refl
line_size zero (b ∷ t) f = rw (not-false (is_newline b) (f.last (omega arith)))
line_size (suc n) [] f = absurd (omega (arith, f.inside))
line_size (suc n) (b ∷ t) f = rw (not-true (is_newline b) (front_first f)) (ap suc (line_size n t (front_next f)))

pub line_inside : (t : List ℕ) → length (first_line t) ≤ length t
unfolding first_line
line_inside [] = omega arith
line_inside (b ∷ t) = if (is_newline b) (λ y. rw y (omega arith)) (λ n. rw n (omega (arith, line_inside t)))

-- a line that has begun
all_one : (begun t : List ℕ) → length (first_line t) ≡ length t → between_from is_newline begun t ≡ (begun ++ first_line t) ∷ []
unfolding first_line between_from
all_one begun [] e = ap (λ (x : List ℕ). x ∷ []) (sym (append-nil begun))
all_one begun (b ∷ t) e =
    if (is_newline b)
    (λ y. absurd (omega (arith, rw y at e)))
    (λ n. rw n (all_one (begun ++ b ∷ []) t (omega (arith, rw n at e)) ∙ ap (λ (x : List ℕ). x ∷ []) (append_snoc begun b (first_line t))))

one_first : (begun t : List ℕ) → length (first_line t) < length t
    → between_from is_newline begun t ≡ (begun ++ first_line t) ∷ lines_of (drop (suc (length (first_line t))) t)
unfolding first_line between_from
one_first begun [] h = absurd (omega arith)
one_first begun (b ∷ t) h =
    if (is_newline b)
    (λ y. rw y (ap (λ (x : List ℕ). x ∷ lines_of t) (sym (append-nil begun))))
    (λ n. rw n (one_first (begun ++ b ∷ []) t (omega (arith, rw n at h))
    ∙ ap (λ (x : List ℕ). x ∷ lines_of (drop (suc (length (first_line t))) t)) (append_snoc begun b (first_line t))))

-- the lines of a text without a newline, and with one
pub lines_one : (t : List ℕ) → length (first_line t) ≡ length t → lines_of t ≡ first_line t ∷ []
lines_one t e = all_one [] t e

pub lines_first : (t : List ℕ) → length (first_line t) < length t → lines_of t ≡ first_line t ∷ lines_of (drop (length (first_line t) + 1) t)
lines_first t h = rw (add-one (length (first_line t))) (one_first [] t h)
