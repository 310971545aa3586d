-- Laws of places, for any readable texts L: no two answers are right; a text that ends or goes wrong behind a common beginning; a part that is handed on.
use Prim.Native.Nat.{ℕ, ◌+◌, ◌≤◌}
use mathlib.Core.Path.{◌≡◌, refl, sym, ap, ◌∙◌, subst}
use mathlib.Core.List.{List, [], ◌∷◌, ◌++◌, append_assoc, append-nil}
use mathlib.Core.Logic.{◌⊎◌, inl, inr, ⊎_elim}
use native.Mathlib.Nat.{add-zero}
use native.Mathlib.Omega.{arith}
use lib.ListN.{length, length-append}
use Rattle.times.specs.declared.Form.{Form}
use Rattle.times.specs.declared.Time.{Time}
use Rattle.times.specs.declared.Time.TheVariants.{Value, Fault}
use Rattle.times.specs.Places.{Common, Place, ReadsAs, value, fault}
use Rattle.times.specs.Parts.{placed_on}

module _ (L : List ℕ → ℕ → Form → Type 0) where
  -- some readable text begins so
  abbrev pub Open : List ℕ → Type 0
  Open a = (z : List ℕ) × (v : ℕ) × (f : Form) × L (a ++ z) v f

  same_place : {t : List ℕ} {p q : ℕ} → Place L t p → Place L t q → p ≡ q
  same_place x y = omega (arith, x.size, y.size, x.longest y.best y.common, y.longest x.best x.common)

  -- no two answers are right, where a text has one number and one form
  pub settled : {t : List ℕ} {r q : Time} → ((v w : ℕ) (f g : Form) → L t v f → L t w g → Value v f ≡ Value w g) → ReadsAs L t r → ReadsAs L t q → r ≡ q
  settled f (value a) (value b) = f _ _ _ _ a b
  settled f (value a) (fault n p) = absurd (n _ _ a)
  settled f (fault n p) (value a) = absurd (n _ _ a)
  settled f (fault n p) (fault m q) = ap Fault (same_place p q)

  -- no text has more than nothing in common
  nothing_common : (t : List ℕ) → Open [] → ((c : ℕ) (a : List ℕ) → Common L t (c ∷ a) → ⊥) → Place L t 0
  nothing_common t o n =
      record {
        best = [];
        common = record { of_text = (t, refl); other = o.0; number = o.1; form = o.2; readable = o.3; of_other = (o.0, refl) };
        size = refl;
        longest = go;
      }
    where
      go : (a : List ℕ) → Common L t a → length a ≤ 0
      go [] k = omega arith
      go (c ∷ a) k = absurd (n c a k)

-- a beginning is no longer than the front f, or goes on behind it
split : (f s a b : List ℕ) → f ++ s ≡ a ++ b → (length a ≤ length f) ⊎ ((c : List ℕ) × (a ≡ f ++ c) × (s ≡ c ++ b))
split [] s a b e = inr (a, refl, e)
split (x ∷ f) s [] b e = inl (omega arith)
split (x ∷ f) s (y ∷ a) b e =
    let p : x ≡ y = cc in
    let q : f ++ s ≡ a ++ b = cc in
    ⊎_elim (λ (l : length a ≤ length f). inl (omega arith)) (λ w. let u = w.1 in inr (w.0, cc, w.2)) (split f s a b q)

-- behind the front f the texts of L are those of K
module _ (L K : List ℕ → ℕ → Form → Type 0) (f : List ℕ) (to : (s : List ℕ) (v : ℕ) (g : Form) → K s v g → L (f ++ s) v g)
    (from : (s : List ℕ) (v : ℕ) (g : Form) → L (f ++ s) v g → K s v g) where
  common_behind : {s : List ℕ} (a c : List ℕ) (k : Common L (f ++ s) a) → a ≡ f ++ c → s ≡ c ++ k.of_text.0 → Common K s c
  common_behind {s} a c k e q =
      let o : k.other ≡ f ++ (c ++ k.of_other.0) = k.of_other.1 ∙ ap (λ (u : List ℕ). u ++ k.of_other.0) e ∙ append_assoc f c k.of_other.0 in
      record {
        of_text = (k.of_text.0, q);
        other = c ++ k.of_other.0;
        number = k.number;
        form = k.form;
        readable = from (c ++ k.of_other.0) k.number k.form (subst (λ (u : List ℕ). L u k.number k.form) o k.readable);
        of_other = (k.of_other.0, refl);
      }

  place_behind : {s : List ℕ} {p : ℕ} → Place K s p → Place L (f ++ s) (length f + p)
  place_behind {s} {p} x =
      record {
        best = f ++ x.best;
        common =
            record {
              of_text = (x.common.of_text.0, rw x.common.of_text.1 (sym (append_assoc f x.best x.common.of_text.0)));
              other = f ++ x.common.other;
              number = x.common.number;
              form = x.common.form;
              readable = to x.common.other x.common.number x.common.form x.common.readable;
              of_other = (x.common.of_other.0, rw x.common.of_other.1 (sym (append_assoc f x.best x.common.of_other.0)));
            };
        size = omega (arith, length-append f x.best, x.size);
        longest =
            λ a k.
            ⊎_elim (λ (l : length a ≤ length f). omega arith)
            (λ w. omega (arith, x.longest w.0 (common_behind a w.0 k w.1 w.2), length-append f w.0, ap length w.1))
            (split f s a k.of_text.0 k.of_text.1);
      }

  -- the part behind f is handed on
  pub handed : {s : List ℕ} {r : Time} → ReadsAs K s r → ReadsAs L (f ++ s) (placed_on (length f) r)
  handed {s} (value {v} {f = g} k) = value (to s v g k)
  handed {s} (fault n p) = fault (λ v g l. n v g (from s v g l)) (place_behind p)

module _ (L : List ℕ → ℕ → Form → Type 0) (f : List ℕ) (o : Open L f) where
  abbrev Rest : List ℕ → ℕ → Form → Type 0
  Rest s v g = L (f ++ s) v g

  front : {s : List ℕ} → ReadsAs Rest s (Fault 0) → ReadsAs L (f ++ s) (Fault (length f))
  front {s} x =
      subst (λ (n : ℕ). ReadsAs L (f ++ s) (Fault n)) (add-zero (length f)) (handed L Rest f (λ u v g k. k) (λ u v g k. k) x)

  -- the text ends behind f, and is not readable
  pub ends : ((v : ℕ) (g : Form) → L f v g → ⊥) → ReadsAs L f (Fault (length f))
  ends n =
      subst (λ (u : List ℕ). ReadsAs L u (Fault (length f))) (append-nil f)
      (front (fault (λ v g l. n v g (subst (λ (u : List ℕ). L u v g) (append-nil f) l))
      (nothing_common Rest [] o (λ c a k. let z = ap length k.of_text.1 in omega arith))))

  -- no readable text goes on by c behind f
  pub stops : (c : ℕ) (y : List ℕ) → ((z : List ℕ) (v : ℕ) (g : Form) → L (f ++ c ∷ z) v g → ⊥) → ReadsAs L (f ++ c ∷ y) (Fault (length f))
  stops c y n = front (fault (λ v g l. n y v g l) (nothing_common Rest (c ∷ y) o go))
    where
      go : (d : ℕ) (a : List ℕ) → Common Rest (c ∷ y) (d ∷ a) → ⊥
      go d a k =
          let e : c ∷ y ≡ d ∷ (a ++ k.of_text.0) = k.of_text.1 in
          let q : k.other ≡ c ∷ (a ++ k.of_other.0) = cc k.of_other.1 in
          n (a ++ k.of_other.0) k.number k.form (subst (λ (u : List ℕ). L (f ++ u) k.number k.form) q k.readable)

-- texts that are readable alike are read alike
pub alike : (L K : List ℕ → ℕ → Form → Type 0) → ((t : List ℕ) (v : ℕ) (f : Form) → K t v f → L t v f) → ((t : List ℕ) (v : ℕ) (f : Form) → L t v f → K t v f)
    → {t : List ℕ} {r : Time} → ReadsAs K t r → ReadsAs L t r
alike L K to from (value k) = handed L K [] to from (value k)
alike L K to from {t} (fault {p} n x) = let e : 0 + p ≡ p = omega arith in subst (λ (q : ℕ). ReadsAs L t (Fault q)) e (handed L K [] to from (fault n x))
