-- The words of a line from its front on: a gap is skipped, a word is what stands up to a gap or a stop, and behind a stop there is none.
use Prim.Native.Nat.{ℕ, zero, suc, ◌<◌}
use mathlib.Core.Path.{◌≡◌, refl, sym, ap, ap₂, ◌∙◌, subst}
use mathlib.Core.Bool.{Bool, true, false, not, ◌||◌}
use mathlib.Core.List.{List, [], ◌∷◌, ◌++◌, append-nil}
use native.Mathlib.Omega.{arith}
use Rattle.std.specs.Prelude.{position, unwrap_or, Option, Some, None}
use lib.Dec.{eqb}
use lib.ListN.{length, take, drop}
use lib.Seq.{append_snoc, drop-length}
use borrow.Author.Tests.{eqb-true, not-true, not-false}
use Rattle.ground.proofs.Cases.{if}
use Rattle.pla.specs.Texts.{between_from, before_comment, filled, is_gap}
use Rattle.pla_lines.specs.Lines.{first_line, words_in, is_stop}
use Rattle.pla_lines.specs.Parts.{Front, in_word}
use Rattle.pla_lines.proofs.Fronts.{front_first, front_next, front_none, front_some, front_or, from, from-drop}

or_no_left : (x y : Bool) → (x || y) ≡ false → x ≡ false
or_no_left true y e = e
or_no_left false y e = refl

or_no_right : (x y : Bool) → (x || y) ≡ false → y ≡ false
or_no_right true false e = refl
or_no_right true true e = e
or_no_right false y e = e

-- what stands before a stop

stopped : (b : ℕ) (t : List ℕ) → is_stop b ≡ true → before_comment (first_line (b ∷ t)) ≡ []
unfolding first_line before_comment
stopped b t e = if (eqb b 10) (λ y. rw y) (λ n. rw (n, (rw n at e)))

going_on : (b : ℕ) (t : List ℕ) → is_stop b ≡ false → before_comment (first_line (b ∷ t)) ≡ b ∷ before_comment (first_line t)
unfolding first_line before_comment
going_on b t e = rw (or_no_left (eqb b 10) (eqb b 35) e, or_no_right (eqb b 10) (eqb b 35) e)

gap_no_stop : (b : ℕ) → is_gap b ≡ true → is_stop b ≡ false
gap_no_stop b e = if (eqb b 32) (λ y. ap is_stop (eqb-true b 32 y)) (λ n. ap is_stop (eqb-true b 9 (rw n at e)))

stop_else : (b : ℕ) → in_word b ≡ false → is_gap b ≡ false → is_stop b ≡ true
stop_else b e n = rw n at (not-false (is_gap b || is_stop b) e)

-- nothing, a stop or a gap in front

words_none : words_in [] ≡ []
unfolding first_line before_comment between_from filled
words_none = refl

words_stop : (b : ℕ) (t : List ℕ) → is_stop b ≡ true → words_in (b ∷ t) ≡ []
unfolding between_from filled
words_stop b t e = rw (stopped b t e)

words_gap : (b : ℕ) (t : List ℕ) → is_gap b ≡ true → words_in (b ∷ t) ≡ words_in t
unfolding between_from filled
words_gap b t e = rw (going_on b t (gap_no_stop b e), e)

words_behind : (n : ℕ) (t : List ℕ) → Front is_gap t n → words_in t ≡ words_in (drop n t)
words_behind zero t f = refl
words_behind (suc n) [] f = absurd (omega (arith, f.inside))
words_behind (suc n) (b ∷ t) f = words_gap b t (front_first f) ∙ words_behind n t (front_next f)

words_over : (n : ℕ) (t : List ℕ) → Front is_gap t n → Front in_word (drop n t) 0 → words_in t ≡ []
words_over zero [] f g = words_none
words_over zero (b ∷ t) f g = words_stop b t (stop_else b (g.last (omega arith)) (f.last (omega arith)))
words_over (suc n) [] f g = absurd (omega (arith, f.inside))
words_over (suc n) (b ∷ t) f g = words_gap b t (front_first f) ∙ words_over n t (front_next f) g

-- a byte of a word is none of them, and belongs to the word that has begun
word_byte : (begun : List ℕ) (b : ℕ) (t : List ℕ) → in_word b ≡ true
    → between_from is_gap begun (before_comment (first_line (b ∷ t))) ≡ between_from is_gap (begun ++ b ∷ []) (before_comment (first_line t))
unfolding between_from
word_byte begun b t e =
    let n = not-true (is_gap b || is_stop b) e in rw (going_on b t (or_no_right (is_gap b) (is_stop b) n), or_no_left (is_gap b) (is_stop b) n)

-- a word that has begun with c and w
word_over : (c : ℕ) (w t : List ℕ) → Front in_word t 0 → filled (between_from is_gap (c ∷ w) (before_comment (first_line t))) ≡ (c ∷ w) ∷ words_in t
unfolding first_line before_comment between_from filled
word_over c w [] f = refl
word_over c w (b ∷ t) f =
    if (is_gap b)
    (λ y. rw (going_on b t (gap_no_stop b y), y))
    (λ n. rw (stopped b t (stop_else b (f.last (omega arith)) n)))

word_on : (c : ℕ) (w : List ℕ) (n : ℕ) (t : List ℕ) → Front in_word t n
    → filled (between_from is_gap (c ∷ w) (before_comment (first_line t))) ≡ (c ∷ w ++ take n t) ∷ words_in (drop n t)
word_on c w zero t f = word_over c w t f ∙ ap (λ (x : List ℕ). (c ∷ x) ∷ words_in t) (sym (append-nil w))
word_on c w (suc n) [] f = absurd (omega (arith, f.inside))
word_on c w (suc n) (b ∷ t) f =
    ap filled (word_byte (c ∷ w) b t (front_first f)) ∙ word_on c (w ++ b ∷ []) n t (front_next f)
    ∙ ap (λ (x : List ℕ). (c ∷ x) ∷ words_in (drop n t)) (append_snoc w b (take n t))

words_first : (n : ℕ) (t : List ℕ) → Front in_word t n → 0 < n → words_in t ≡ take n t ∷ words_in (drop n t)
words_first zero t f h = absurd (omega arith)
words_first (suc n) [] f h = absurd (omega (arith, f.inside))
words_first (suc n) (b ∷ t) f h = ap filled (word_byte [] b t (front_first f)) ∙ word_on b [] n t (front_next f)

-- gaps alone, a stop behind them, and a word: by where the first byte stands that is no gap, and the first behind it that is of no word
not_not : (x : Bool) → x ≡ not (not x)
not_not true = refl
not_not false = refl

pub words_gaps : (t : List ℕ) → None ≡ position (λ b. not (is_gap b)) t → words_in t ≡ []
words_gaps t e =
    words_over (length t) t (front_none is_gap (λ b. not (is_gap b)) (λ b. not_not (is_gap b)) t (sym e))
    (subst (λ u. Front in_word u 0) (sym (drop-length t))
    (record { inside = omega arith; each = λ i h. absurd (omega arith); last = λ h. absurd (omega arith) }))

module _ (t : List ℕ) {n k : ℕ} {o : Option ℕ} (gap : Some n ≡ position (λ b. not (is_gap b)) t) (word : o ≡ position (λ b. is_gap b || is_stop b) (from n t))
    (size : k ≡ unwrap_or o (length (from n t))) where
  behind_gap : Front is_gap t n
  behind_gap = front_some is_gap (λ b. not (is_gap b)) (λ b. not_not (is_gap b)) t n (sym gap)

  behind_word : Front in_word (drop n t) k
  behind_word =
      subst (λ u. Front in_word u k) (from-drop n t)
      (subst (Front in_word (from n t)) (sym (size ∙ ap (λ p. unwrap_or p (length (from n t))) word))
      (front_or in_word (λ b. is_gap b || is_stop b) (λ b. refl) (from n t)))

  pub words_gone : k ≡ 0 → words_in t ≡ []
  words_gone z = words_over n t behind_gap (subst (Front in_word (drop n t)) z behind_word)

  pub word_split : {a b : List ℕ} → (k ≡ 0 → ⊥) → a ≡ take k (from n t) → b ≡ drop k (from n t) → words_in t ≡ a ∷ words_in b
  word_split {a} {b} some front back =
      words_behind n t behind_gap ∙ words_first k (drop n t) behind_word (omega (arith, some))
      ∙ ap (λ u. take k u ∷ words_in (drop k u)) (sym (from-drop n t)) ∙ ap₂ (λ x y. x ∷ words_in y) (sym front) (sym back)
