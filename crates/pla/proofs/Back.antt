-- Reading what was written: the lines of the text one by one. No byte of a word is below 45, where newline, tab, space and `#` are.
use Prim.Native.Nat.{ℕ, zero, suc, ◌+◌, ◌≤◌, ◌<◌}
use mathlib.Core.Path.{◌≡◌, refl, sym, ap, subst, ◌∙◌}
use mathlib.Core.Bool.{Bool, true, false}
use mathlib.Core.List.{List, [], ◌∷◌, ◌++◌, append_assoc, append-nil}
use native.Mathlib.Omega.{arith}
use lib.Dec.{eqb}
use lib.ListN.{length, get_or}
use borrow.Author.Tests.{eq-eqb, ne_eqb, lt-ltb}
use Rattle.ground.specs.Texts.{ascii}
use Rattle.ground.proofs.Cases.{digit}
use Rattle.print.specs.Texts.{decimal, sign, pattern}
use Rattle.print.proofs.Digits.{pattern-length, pattern-sign}
use Rattle.clock.proofs.ReadsBack.{decimal_numeral, decimal_digit}
use Rattle.lists.specs.Lists.{Boxes, covered}
use Rattle.sheet.specs.Limits.{marks_ok}
use Rattle.sheet.proofs.Limits.{some_marks}
use Rattle.stored.specs.Fields.{Outcome, good}
use Rattle.pla.specs.Texts.{between_from, is_newline, lines_of, before_comment, is_gap, filled, words_of}
use Rattle.pla.specs.Sayings.{Saying, inputs, output, count, cube, Says, dot_i, dot_o, dot_p, drawn, dot_e}
use Rattle.pla.specs.Reading.{Count, uncounted, counted, Said, nothing_said, class_alone, comes_to, on, judge, Run, stopped, taken, PlaSays}
use Rattle.pla.specs.Writing.{cube_lines, pla_text}

-- no byte of the text passes the test
None : (ℕ → Bool) → List ℕ → Type 0
None p [] = Unit {0}
None p (b ∷ w) = (p b ≡ false) × None p w

abbrev High : List ℕ → Type 0
High w = (i : ℕ) → i < length w → 45 ≤ get_or w i 0

none_high : (p : ℕ → Bool) → ((c : ℕ) → 45 ≤ c → p c ≡ false) → (w : List ℕ) → High w → None p w
unfolding None
none_high p low [] h = tt
none_high p low (b ∷ w) h = (low b (h 0 (omega arith)), none_high p low w (λ i l. h (suc i) (omega arith)))

-- a text is cut at its first byte that passes the test
cut : (p : ℕ → Bool) (begun w : List ℕ) (c : ℕ) (rest : List ℕ) → None p w → p c ≡ true
    → between_from p begun (w ++ c ∷ rest) ≡ (begun ++ w) ∷ between_from p [] rest
unfolding None between_from
cut p begun [] c rest n e = rw e (ap (λ (x : List ℕ). x ∷ between_from p [] rest) (sym (append-nil begun)))
cut p begun (b ∷ w) c rest n e = rw n.0 (cut p (begun ++ b ∷ []) w c rest n.1 e ∙ ap (λ (x : List ℕ). x ∷ between_from p [] rest) (append_assoc begun (b ∷ []) w))

uncut : (p : ℕ → Bool) (begun w : List ℕ) → None p w → between_from p begun w ≡ (begun ++ w) ∷ []
unfolding None between_from
uncut p begun [] n = ap (λ (x : List ℕ). x ∷ []) (sym (append-nil begun))
uncut p begun (b ∷ w) n = rw n.0 (uncut p (begun ++ b ∷ []) w n.1 ∙ ap (λ (x : List ℕ). x ∷ []) (append_assoc begun (b ∷ []) w))

uncommented : (w : List ℕ) → None (λ b. eqb b 35) w → before_comment w ≡ w
unfolding None before_comment
uncommented [] n = refl
uncommented (b ∷ w) n = rw n.0 (ap (λ (x : List ℕ). b ∷ x) (uncommented w n.1))

none_both : (p : ℕ → Bool) (a b : List ℕ) → None p a → None p b → None p (a ++ b)
unfolding None
none_both p [] b n m = m
none_both p (c ∷ a) b n m = (n.0, none_both p a b n.1 m)

-- what is 45 or above is no newline, no gap and no `#`

no_newline : (c : ℕ) → 45 ≤ c → is_newline c ≡ false
no_newline c h = ne_eqb c 10 (λ e. omega (arith, e, h))

no_gap : (c : ℕ) → 45 ≤ c → is_gap c ≡ false
no_gap c h = rw (ne_eqb c 32 (λ e. omega (arith, e, h)), ne_eqb c 9 (λ e. omega (arith, e, h)))

no_hash : (c : ℕ) → 45 ≤ c → eqb c 35 ≡ false
no_hash c h = ne_eqb c 35 (λ e. omega (arith, e, h))

-- two words with a space between
two_words : (a : ℕ) (v : List ℕ) (b : ℕ) (w : List ℕ) → High (a ∷ v) → High (b ∷ w) → words_of ((a ∷ v) ++ 32 ∷ b ∷ w) ≡ (a ∷ v) ∷ (b ∷ w) ∷ []
unfolding None filled
two_words a v b w h k =
    ap (λ (x : List ℕ). filled (between_from is_gap [] x))
    (uncommented ((a ∷ v) ++ 32 ∷ b ∷ w) (none_both (λ c. eqb c 35) (a ∷ v) (32 ∷ b ∷ w) (none_high (λ c. eqb c 35) no_hash (a ∷ v) h) (refl, none_high (λ c. eqb c 35) no_hash (b ∷ w) k)))
    ∙ ap filled
    (cut is_gap [] (a ∷ v) 32 (b ∷ w) (none_high is_gap no_gap (a ∷ v) h) refl
    ∙ ap (λ (x : List (List ℕ)). (a ∷ v) ∷ x) (uncut is_gap [] (b ∷ w) (none_high is_gap no_gap (b ∷ w) k)))

two : (a b : List ℕ) → 0 < length a → 0 < length b → High a → High b → words_of (a ++ 32 ∷ b) ≡ a ∷ b ∷ []
two [] b p q h k = absurd (omega arith)
two (c ∷ a) [] p q h k = absurd (omega arith)
two (c ∷ a) (d ∷ b) p q h k = two_words c a d b h k

-- one line that goes on
module _ {most size : ℕ} where
  run_line : {s : Said} {at : ℕ} {o : Outcome} (w rest : List ℕ) (x : Saying) (u : Said) → None is_newline w → Says s.inputs (words_of w) x
      → judge most size s at x ≡ on u → Run most size u (at + length w + 1) (lines_of rest) o → Run most size s at (lines_of (w ++ 10 ∷ rest)) o
  run_line {s} {at} {o} w rest x u n y j r =
      subst (λ (l : List (List ℕ)). Run most size s at l o) (sym (cut is_newline [] w 10 rest n refl)) (taken {line = w} y j r)

-- the words that are written

high_decimal : (n : ℕ) → High (decimal n)
high_decimal n i l = omega (arith, (decimal_digit n i l).0)

high_pattern : (m b : ℕ) → High (pattern m b)
high_pattern m b i l =
    let d = pattern-sign m b i (omega (arith, pattern-length m b, l)) in
    subst (λ (x : ℕ). 45 ≤ x) (sym d.2) (digit (λ (x : ℕ). 45 ≤ sign x) d.0 d.1 (omega arith) (omega arith) (omega arith))

high_one : High (49 ∷ [])
high_one zero l = omega arith
high_one (suc i) l = absurd (omega arith)

high_key : (k : ℕ) → 45 ≤ k → High (46 ∷ k ∷ [])
high_key k h zero l = omega arith
high_key k h (suc zero) l = h
high_key k h (suc (suc i)) l = absurd (omega arith)

-- a keyword and a number
key_words : (k n : ℕ) → 45 ≤ k → words_of ((46 ∷ k ∷ []) ++ 32 ∷ decimal n) ≡ (46 ∷ k ∷ []) ∷ decimal n ∷ []
key_words k n h = two (46 ∷ k ∷ []) (decimal n) (omega arith) (decimal_numeral n).some (high_key k h) (high_decimal n)

-- a word, a space and a word have no newline
none_line : (a b : List ℕ) → High a → High b → None is_newline (a ++ 32 ∷ b)
unfolding None
none_line a b h k = none_both is_newline a (32 ∷ b) (none_high is_newline no_newline a h) (refl, none_high is_newline no_newline b k)

-- a line ended by a newline, and what follows it: `a b\n` and c and d
line_apart : (a b c d : List ℕ) → ((a ++ (32 ∷ b ++ 10 ∷ [])) ++ c) ++ d ≡ (a ++ 32 ∷ b) ++ 10 ∷ (c ++ d)
line_apart a b c d =
    append_assoc (a ++ (32 ∷ b ++ 10 ∷ [])) c d
    ∙ ap (λ (x : List ℕ). x ++ (c ++ d)) (sym (append_assoc a (32 ∷ b) (10 ∷ [])))
    ∙ append_assoc (a ++ 32 ∷ b) (10 ∷ []) (c ++ d)

-- the end
end_read : {most size : ℕ} {s : Said} {at : ℕ} → Run most size s at (lines_of (ascii ".e\n")) (comes_to size s)
unfolding between_from before_comment filled
end_read = stopped {line = ascii ".e"} {rest = [] ∷ []} (dot_e {rest = []} refl) refl

-- the cubes, and the end
cubes_read : {most size : ℕ} {at : ℕ} (m : ℕ) (c : Count) (done l : List ℕ) → 0 < m → Boxes m l
    → Run most size (record { inputs = m; output = true; count = c; cubes = done }) at (lines_of (cube_lines m l ++ ascii ".e\n"))
    (comes_to size (record { inputs = m; output = true; count = c; cubes = done ++ l }))
unfolding cube_lines Boxes
cubes_read {most} {size} {at} m c done [] some boxes =
    subst (λ (x : List ℕ). Run most size (record { inputs = m; output = true; count = c; cubes = done }) at (lines_of (ascii ".e\n"))
    (comes_to size (record { inputs = m; output = true; count = c; cubes = x }))) (sym (append-nil done)) end_read
cubes_read {most} {size} {at} m c done (b ∷ l) some boxes =
    subst (λ (x : List ℕ). Run most size (record { inputs = m; output = true; count = c; cubes = done }) at (lines_of x)
    (comes_to size (record { inputs = m; output = true; count = c; cubes = done ++ b ∷ l })))
    (sym (line_apart (pattern m b) (49 ∷ []) (cube_lines m l) (ascii ".e\n")))
    (run_line (pattern m b ++ 32 ∷ 49 ∷ []) (cube_lines m l ++ ascii ".e\n") (cube b) (record { inputs = m; output = true; count = c; cubes = done ++ b ∷ [] })
    (none_line (pattern m b) (49 ∷ []) (high_pattern m b) high_one)
    (drawn boxes.0 (two (pattern m b) (49 ∷ []) (omega (arith, pattern-length m b, some)) (omega arith) (high_pattern m b) high_one)) refl
    (subst (λ (x : List ℕ). Run most size (record { inputs = m; output = true; count = c; cubes = done ++ b ∷ [] }) (at + length (pattern m b ++ 32 ∷ 49 ∷ []) + 1)
    (lines_of (cube_lines m l ++ ascii ".e\n")) (comes_to size (record { inputs = m; output = true; count = c; cubes = x })))
    (append_assoc done (b ∷ []) l) (cubes_read {at = at + length (pattern m b ++ 32 ∷ 49 ∷ []) + 1} m c (done ++ b ∷ []) l some boxes.1)))

-- `.i`, `.o` and `.p` in front of them
text_lines : (m k : ℕ) (c : List ℕ)
    → (((((ascii ".i " ++ decimal m) ++ ascii "\n.o 1\n.p ") ++ decimal k) ++ ascii "\n") ++ c) ++ ascii ".e\n"
    ≡ (ascii ".i" ++ 32 ∷ decimal m) ++ 10 ∷ ((ascii ".o" ++ 32 ∷ ascii "1") ++ 10 ∷ ((ascii ".p" ++ 32 ∷ decimal k) ++ 10 ∷ (c ++ ascii ".e\n")))
text_lines m k c =
    append_assoc ((((ascii ".i " ++ decimal m) ++ ascii "\n.o 1\n.p ") ++ decimal k) ++ ascii "\n") c (ascii ".e\n")
    ∙ append_assoc (((ascii ".i " ++ decimal m) ++ ascii "\n.o 1\n.p ") ++ decimal k) (ascii "\n") (c ++ ascii ".e\n")
    ∙ append_assoc ((ascii ".i " ++ decimal m) ++ ascii "\n.o 1\n.p ") (decimal k) (10 ∷ (c ++ ascii ".e\n"))
    ∙ append_assoc (ascii ".i " ++ decimal m) (ascii "\n.o 1\n.p ") (decimal k ++ 10 ∷ (c ++ ascii ".e\n"))

module _ (most size m : ℕ) (ok : marks_ok most m ≡ true) (l : List ℕ) (boxes : Boxes m l) where
  some : 0 < m
  some = some_marks most m ok

  counted_right : (at : ℕ) → comes_to size (record { inputs = m; output = true; count = counted (length l) at; cubes = l }) ≡ good (class_alone m (covered m l))
  counted_right at = rw (lt-ltb 0 m some, eq-eqb (length l) (length l) refl)

  back_run : Run most size nothing_said 0
      (lines_of ((ascii ".i" ++ 32 ∷ decimal m) ++ 10 ∷ ((ascii ".o" ++ 32 ∷ ascii "1") ++ 10 ∷ ((ascii ".p" ++ 32 ∷ decimal (length l)) ++ 10 ∷ (cube_lines m l ++ ascii ".e\n")))))
      (good (class_alone m (covered m l)))
  back_run =
      run_line (ascii ".i" ++ 32 ∷ decimal m) _ (inputs m) (record { inputs = m; output = false; count = uncounted; cubes = [] })
      (none_line (ascii ".i") (decimal m) (high_key 105 (omega arith)) (high_decimal m)) (dot_i (key_words 105 m (omega arith))) (rw ok)
      (run_line (ascii ".o" ++ 32 ∷ ascii "1") _ output (record { inputs = m; output = true; count = uncounted; cubes = [] })
      (none_line (ascii ".o") (ascii "1") (high_key 111 (omega arith)) high_one)
      (dot_o (two (ascii ".o") (ascii "1") (omega arith) (omega arith) (high_key 111 (omega arith)) high_one)) (rw (lt-ltb 0 m some))
      (run_line (ascii ".p" ++ 32 ∷ decimal (length l)) _ (count (length l)) _
      (none_line (ascii ".p") (decimal (length l)) (high_key 112 (omega arith)) (high_decimal (length l))) (dot_p (key_words 112 (length l) (omega arith))) refl
      (subst (Run most size _ _ (lines_of (cube_lines m l ++ ascii ".e\n"))) (counted_right _) (cubes_read m _ [] l some boxes))))

-- THE TEXT OF A LIST IS READ AS WHAT ITS BOXES COVER
pub pla_back : (most m : ℕ) → marks_ok most m ≡ true → (l : List ℕ) → Boxes m l → PlaSays most (pla_text m l) (good (class_alone m (covered m l)))
unfolding pla_text
pla_back most m ok l boxes = record {
  run = subst (λ (t : List ℕ). Run most (length (pla_text m l)) nothing_said 0 (lines_of t) (good (class_alone m (covered m l))))
      (sym (text_lines m (length l) (cube_lines m l))) (back_run most (length (pla_text m l)) m ok l boxes);
}
