-- A line says one thing at most, which can be worked out from its words (`guess`): so whether it says anything is decided by that one.
use Prim.Native.Nat.{ℕ, ◌^◌, ◌≤◌}
use mathlib.Core.Path.{◌≡◌, sym, ap, subst, ◌∙◌}
use mathlib.Core.Bool.{cond}
use mathlib.Core.List.{List, [], ◌∷◌, cons≢nil, List-discrete}
use native.Mathlib.Decide.{ℕ_discrete}
use native.Mathlib.Omega.{arith}
use lib.Dec.{eqb}
use lib.ListN.{get_or}
use borrow.Author.Tests.{ne_eqb}
use Rattle.ground.specs.Texts.{ascii}
use Rattle.ground.proofs.Cases.{below_or}
use Rattle.print.specs.Texts.{decimal, pattern}
use Rattle.print.proofs.Patterns.{box_of, pattern_box, no_point}
use Rattle.times.specs.Texts.{digits_value}
use Rattle.clock.proofs.ReadsBack.{decimal_numeral}
use Rattle.pla.specs.Sayings.{Saying, blank, inputs, output, count, cube, end, Says, no_word, dot_i, dot_o, dot_p, drawn, dot_e}

-- what a keyword with the letter k says, and the word behind it; what a line may say at most
keyword : ℕ → List ℕ → Saying
keyword k w = cond (eqb k 105) (inputs (digits_value 0 w)) (cond (eqb k 111) output (cond (eqb k 112) (count (digits_value 0 w)) end))

guess : List (List ℕ) → Saying
guess [] = blank
guess (w ∷ rest) = cond (eqb (get_or w 0 0) 46) (keyword (get_or w 1 0) (get_or rest 0 [])) (cube (box_of w))

guessed : {m : ℕ} {ws : List (List ℕ)} {x : Saying} → Says m ws x → guess ws ≡ x
unfolding guess keyword
guessed (no_word e) = ap guess e
guessed (dot_i {n} e) = ap guess e ∙ ap inputs (decimal_numeral n).is
guessed (dot_o e) = ap guess e
guessed (dot_p {n} e) = ap guess e ∙ ap count (decimal_numeral n).is
guessed {m} (drawn {b} l e) =
    ap guess e ∙ rw (ne_eqb (get_or (pattern m b) 0 0) 46 (no_point m b)) (ap cube (pattern_box m b l))
guessed (dot_e e) = ap guess e

pub says_one : {m : ℕ} {ws : List (List ℕ)} {x y : Saying} → Says m ws x → Says m ws y → x ≡ y
says_one p q = sym (guessed p) ∙ guessed q

words_or : {P : Type 0} (a b : List (List ℕ)) → (a ≡ b → P) → ((a ≡ b → ⊥) → P) → P
words_or {P} a b same other = go (List-discrete (List-discrete ℕ_discrete) a b)
  where
    go : Dec (a ≡ b) → P
    go (yes e) = same e
    go (no d) = other d

-- the first word alone tells the end
end_or : {P : Type 0} (m : ℕ) (ws : List (List ℕ)) → (Says m ws end → P) → ((Says m ws end → ⊥) → P) → P
end_or m [] y n = n none
  where
    none : Says m [] end → ⊥
    none (dot_e e) = cons≢nil (sym e)
end_or m (w ∷ rest) y n = words_or (w ∷ []) (ascii ".e" ∷ []) (λ e. y (dot_e (ap (λ (l : List (List ℕ)). get_or l 0 [] ∷ rest) e))) (λ d. n (other d))
  where
    other : (w ∷ [] ≡ ascii ".e" ∷ [] → ⊥) → Says m (w ∷ rest) end → ⊥
    other d (dot_e e) = d (ap (λ (l : List (List ℕ)). get_or l 0 [] ∷ []) e)

module _ {P : Type 0} (m : ℕ) (ws : List (List ℕ)) where
  is_said : (x : Saying) → (Says m ws x → P) → ((Says m ws x → ⊥) → P) → P
  is_said blank y n = words_or ws [] (λ e. y (no_word e)) (λ d. n (of_blank d))
    where
      of_blank : (ws ≡ [] → ⊥) → Says m ws blank → ⊥
      of_blank d (no_word e) = d e
  is_said (inputs k) y n = words_or ws (ascii ".i" ∷ decimal k ∷ []) (λ e. y (dot_i e)) (λ d. n (of_inputs d))
    where
      of_inputs : (ws ≡ ascii ".i" ∷ decimal k ∷ [] → ⊥) → Says m ws (inputs k) → ⊥
      of_inputs d (dot_i e) = d e
  is_said output y n = words_or ws (ascii ".o" ∷ ascii "1" ∷ []) (λ e. y (dot_o e)) (λ d. n (of_output d))
    where
      of_output : (ws ≡ ascii ".o" ∷ ascii "1" ∷ [] → ⊥) → Says m ws output → ⊥
      of_output d (dot_o e) = d e
  is_said (count k) y n = words_or ws (ascii ".p" ∷ decimal k ∷ []) (λ e. y (dot_p e)) (λ d. n (of_count d))
    where
      of_count : (ws ≡ ascii ".p" ∷ decimal k ∷ [] → ⊥) → Says m ws (count k) → ⊥
      of_count d (dot_p e) = d e
  is_said (cube b) y n =
      below_or b (3 ^ m)
      (λ l. words_or ws (pattern m b ∷ ascii "1" ∷ []) (λ e. y (drawn l e)) (λ d. n (of_cube d)))
      (λ h. n (of_none h))
    where
      of_cube : (ws ≡ pattern m b ∷ ascii "1" ∷ [] → ⊥) → Says m ws (cube b) → ⊥
      of_cube d (drawn l e) = d e

      of_none : 3 ^ m ≤ b → Says m ws (cube b) → ⊥
      of_none h (drawn l e) = omega arith
  is_said end y n = end_or m ws y n

pub says_or : {P : Type 0} (m : ℕ) (ws : List (List ℕ)) → ((x : Saying) → Says m ws x → P) → (((x : Saying) → Says m ws x → ⊥) → P) → P
says_or m ws y n = is_said m ws (guess ws) (y (guess ws)) (λ d. n (λ x s. d (subst (Says m ws) (sym (guessed s)) s)))
