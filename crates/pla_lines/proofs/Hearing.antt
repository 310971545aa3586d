-- What is heard of a line, by the number of its words and, where there are two, by the first.
use Prim.Native.Nat.{ℕ, zero, suc, ◌^◌, ◌<◌}
use mathlib.Core.Path.{◌≡◌, refl, sym, ap, ◌∙◌}
use mathlib.Core.List.{List, [], ◌∷◌}
use native.Mathlib.Omega.{arith}
use Rattle.std.specs.Prelude.{Bool, true, false, Option, Some, None, MatchOption, is_some, eqb}
use Rattle.std.specs.Cmp.Lexicographic.{pointwise}
use Rattle.std.proofs.lemmas.Bool.Decides.{Decides-eqb}
use Rattle.std.proofs.lemmas.Slice.Eq.{slice_eq-Decides}
use lib.ListN.{length, get_or}
use Rattle.ground.specs.Texts.{ascii}
use Rattle.ground.proofs.Cases.{digit, clash}
use Rattle.print.specs.Texts.{decimal, sign, pattern}
use Rattle.print.proofs.Digits.{pattern-length, pattern-sign}
use Rattle.pla.specs.Sayings.{Saying, Says, no_word, dot_i, dot_o, dot_p, drawn, dot_e}
use Rattle.pla_lines.specs.declared.Heard.TheVariants.{Blank, Inputs, Output, Count, Cube, End, Unreadable}
use Rattle.pla_lines.specs.Parts.{Numbered, Boxed, Hears, said, unsaid}

-- what a test of two words says
pub same : {a b w : List ℕ} {r : Bool} → b ≡ w → r ≡ pointwise eqb a b → r ≡ true → a ≡ w
same s e y = (slice_eq-Decides Decides-eqb _ _ _ e).0 y ∙ s

pub other : {a b w : List ℕ} {r : Bool} → b ≡ w → r ≡ pointwise eqb a b → r ≡ false → a ≡ w → ⊥
other s e n q = clash ((slice_eq-Decides Decides-eqb _ _ _ e).1 (q ∙ sym s)) n

pub nothing : {X : Type 0} (o : Option X) {P : Type 0} (Q : X → Type 0) → MatchOption o P Q → is_some o ≡ false → P
nothing None Q m e = m
nothing (Some x) Q m e = clash refl e

-- what stands behind a word, told otherwise
pub behind_word : {ws us vs : List (List ℕ)} {a : List ℕ} → ws ≡ a ∷ us → us ≡ vs → ws ≡ a ∷ vs
behind_word e f = cc

-- lines that are not of two words

module _ (m : ℕ) {ws : List (List ℕ)} where
  pub hears_none : ws ≡ [] → Hears m ws Blank
  hears_none e = said (no_word e) refl

  pub hears_end : {rest : List (List ℕ)} → ws ≡ ascii ".e" ∷ rest → Hears m ws End
  hears_end e = said (dot_e e) refl

  hears_other : (length ws ≡ 0 → ⊥) → (length ws ≡ 2 → ⊥) → ((rest : List (List ℕ)) → ws ≡ ascii ".e" ∷ rest → ⊥) → Hears m ws Unreadable
  hears_other none two end = unsaid says refl
    where
      says : (x : Saying) → Says m ws x → ⊥
      says x (no_word e) = none (ap length e)
      says x (dot_i e) = two (ap length e)
      says x (dot_o e) = two (ap length e)
      says x (dot_p e) = two (ap length e)
      says x (drawn l e) = two (ap length e)
      says x (dot_e e) = end _ e

  pub hears_one : {a : List ℕ} → (a ≡ ascii ".e" → ⊥) → ws ≡ a ∷ [] → Hears m ws Unreadable
  hears_one end e = hears_other (λ z. omega (arith, ap length e)) (λ z. omega (arith, ap length e)) (λ rest f. end (cc))

  pub hears_three : {a b c : List ℕ} {rest : List (List ℕ)} → (a ≡ ascii ".e" → ⊥) → ws ≡ a ∷ b ∷ c ∷ rest → Hears m ws Unreadable
  hears_three end e = hears_other (λ z. omega (arith, ap length e)) (λ z. omega (arith, ap length e)) (λ rest f. end (cc))

-- a keyword is no cube
no_cube : (m b : ℕ) (rest : List ℕ) → 46 ∷ rest ≡ pattern m b → ⊥
no_cube zero b rest e = omega (arith, ap length e, pattern-length 0 b)
no_cube (suc m) b rest e =
    let s = pattern-sign (suc m) b 0 (omega arith) in
    digit (λ (d : ℕ). 46 ≡ sign d → ⊥) s.0 s.1 (λ q. omega arith) (λ q. omega arith) (λ q. omega arith) (ap (λ (l : List ℕ). get_or l 0 0) e ∙ s.2)

-- no word is two keywords
keyword : {a : List ℕ} {k l : ℕ} → a ≡ 46 ∷ k ∷ [] → a ≡ 46 ∷ l ∷ [] → k ≡ l
keyword p q = cc

-- two words

module _ (m : ℕ) {a b : List ℕ} where
  pub hears_inputs : {v : ℕ} → a ≡ ascii ".i" → Numbered b (Some v) → Hears m (a ∷ b ∷ []) (Inputs v)
  hears_inputs e (Numbered.is n t v) = said (dot_i {n = n} (cc)) (ap Inputs v)

  pub hears_count : {v : ℕ} → a ≡ ascii ".p" → Numbered b (Some v) → Hears m (a ∷ b ∷ []) (Count v)
  hears_count e (Numbered.is n t v) = said (dot_p {n = n} (cc)) (ap Count v)

  pub hears_output : a ≡ ascii ".o" → b ≡ ascii "1" → Hears m (a ∷ b ∷ []) Output
  hears_output e f = said (dot_o (cc)) refl

  pub hears_cube : {c : ℕ} → Boxed m a (Some c) → b ≡ ascii "1" → Hears m (a ∷ b ∷ []) (Cube c)
  hears_cube (Boxed.is l e) f = said (drawn l (cc)) refl

-- and two words that say nothing
module _ (m : ℕ) {a b : List ℕ} (end : a ≡ ascii ".e" → ⊥) where
  hears_nothing : (a ≡ ascii ".i" → (n : ℕ) → b ≡ decimal n → ⊥) → (a ≡ ascii ".p" → (n : ℕ) → b ≡ decimal n → ⊥)
      → (b ≡ ascii "1" → a ≡ ascii ".o" → ⊥) → (b ≡ ascii "1" → (c : ℕ) → c < 3 ^ m → a ≡ pattern m c → ⊥) → Hears m (a ∷ b ∷ []) Unreadable
  hears_nothing i p o d = unsaid says refl
    where
      says : (x : Saying) → Says m (a ∷ b ∷ []) x → ⊥
      says x (no_word e) = omega (arith, ap length e)
      says x (dot_i {n} e) = i (cc) n (cc)
      says x (dot_p {n} e) = p (cc) n (cc)
      says x (dot_o e) = o (cc) (cc)
      says x (drawn {b = c} l e) = d (cc) c l (cc)
      says x (dot_e e) = end (cc)

  pub no_inputs : a ≡ ascii ".i" → Numbered b None → Hears m (a ∷ b ∷ []) Unreadable
  no_inputs e (Numbered.none q) =
      hears_nothing (λ f. q) (λ f. absurd (omega (arith, keyword e f))) (λ g f. omega (arith, keyword e f)) (λ g c l f. no_cube m c _ (sym e ∙ f))

  pub no_count : a ≡ ascii ".p" → Numbered b None → Hears m (a ∷ b ∷ []) Unreadable
  no_count e (Numbered.none q) =
      hears_nothing (λ f. absurd (omega (arith, keyword e f))) (λ f. q) (λ g f. omega (arith, keyword e f)) (λ g c l f. no_cube m c _ (sym e ∙ f))

  pub no_one : (a ≡ ascii ".i" → ⊥) → (a ≡ ascii ".p" → ⊥) → (b ≡ ascii "1" → ⊥) → Hears m (a ∷ b ∷ []) Unreadable
  no_one i p q = hears_nothing (λ f. absurd (i f)) (λ f. absurd (p f)) (λ g. absurd (q g)) (λ g. absurd (q g))

  pub no_box : (a ≡ ascii ".i" → ⊥) → (a ≡ ascii ".p" → ⊥) → (a ≡ ascii ".o" → ⊥) → Boxed m a None → Hears m (a ∷ b ∷ []) Unreadable
  no_box i p o (Boxed.none q) = hears_nothing (λ f. absurd (i f)) (λ f. absurd (p f)) (λ g. o) (λ g. q)
