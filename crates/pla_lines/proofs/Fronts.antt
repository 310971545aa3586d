-- Bytes passed one by one as long as a test holds of them, up to the `Front` of a text.
use Prim.Native.Nat.{ℕ, suc, ◌-◌, ◌≤◌}
use mathlib.Core.Path.{◌≡◌, refl, ap, ◌∙◌}
use mathlib.Core.Bool.{Bool, true}
use mathlib.Core.List.{List, ◌∷◌}
use native.Mathlib.Omega.{arith}
use lib.ListN.{length, get_or, take, drop, length-drop}
use lib.Seq.{take_all}
use borrow.Author.Tests.{ltb-false}
use Rattle.std.specs.Prelude.{nat_lt, not, position, unwrap_or, Option, Some, None}
use Rattle.std.specs.List.{position_or_len}
use Rattle.std.proofs.lemmas.List.Quantifiers.{position-Some}
use Rattle.std.proofs.lemmas.List.Sums.{fails_before_first}
use Rattle.ground.proofs.Cases.{if}
use Rattle.pla_lines.specs.Parts.{Front}

some_or_none : {n : ℕ} → Some n ≡ None → ⊥
some_or_none e = cc

-- the first byte of which the test does not hold, or the end
module _ (p q : ℕ → Bool) (other : (b : ℕ) → p b ≡ not (q b)) (t : List ℕ) where
  pub front_some : (n : ℕ) → position q t ≡ Some n → Front p t n
  front_some n e =
      let w = position-Some q t n 0 e in
      record {
        inside = omega (arith, w.0);
        each = λ i h. other (get_or t i 0) ∙ ap not (w.2 i h);
        last = λ h. other (get_or t n 0) ∙ ap not w.1;
      }

  pub front_none : position q t ≡ None → Front p t (length t)
  front_none e =
      let past : length t ≤ position_or_len q t =
      if (nat_lt (position_or_len q t) (length t)) (λ y. absurd (some_or_none (rw y at e))) (λ n. ltb-false _ _ n) in
      record { inside = omega arith; each = λ i h. other (get_or t i 0) ∙ ap not (fails_before_first q t i 0 (omega (arith, past))); last = λ h. absurd (omega arith) }

  pub front_or : Front p t (unwrap_or (position q t) (length t))
  front_or = go (position q t) refl
    where
      go : (o : Option ℕ) → position q t ≡ o → Front p t (unwrap_or o (length t))
      go (Some n) e = front_some n e
      go None e = front_none e

-- a front behind its first byte

pub front_first : {p : ℕ → Bool} {b : ℕ} {t : List ℕ} {n : ℕ} → Front p (b ∷ t) (suc n) → p b ≡ true
front_first f = f.each 0 (omega arith)

pub front_next : {p : ℕ → Bool} {b : ℕ} {t : List ℕ} {n : ℕ} → Front p (b ∷ t) (suc n) → Front p t n
front_next f = record { inside = omega (arith, f.inside); each = λ i h. f.each (suc i) (omega arith); last = λ h. f.last (omega arith) }

-- the bytes from a place on, as they are lent
abbrev pub from : ℕ → List ℕ → List ℕ
from n t = take (length t - n) (drop n t)

pub from-drop : (n : ℕ) (t : List ℕ) → from n t ≡ drop n t
from-drop n t = take_all (length t - n) (drop n t) (omega (arith, length-drop n t))
