-- Lists of boxes by index: what holds of the box at each place holds of the list, and the other way round.
use mathlib.Core.Path.{◌≡◌, sym, ◌∙◌}
use mathlib.Core.Bool.{true, false≢true}
use mathlib.Core.List.{List, [], ◌∷◌}
use Prim.Native.Nat.{ℕ, zero, suc, ◌^◌, ◌<◌}
use native.Mathlib.Omega.{arith}
use native.Mathlib.Nat.{not-suc-le-zero}
use lib.ListN.{length, get_or}
use Rattle.ground.proofs.Cases.{if, clash}
use Rattle.boxes.specs.Boxes.{contains}
use Rattle.lists.specs.Lists.{Boxes, covered, Apart}
use Rattle.lists.specs.Pottosin.{Joined}
use Rattle.lists.proofs.Count.{covered_in, covered_out}

module _ (m : ℕ) where
  pub boxes_at : (l : List ℕ) (i : ℕ) → Boxes m l → i < length l → get_or l i 0 < 3 ^ m
  unfolding Boxes
  boxes_at [] i b h = absurd (not-suc-le-zero h)
  boxes_at (a ∷ l) zero b h = b.0
  boxes_at (a ∷ l) (suc i) b h = boxes_at l i b.1 (omega arith)

  pub boxes_all : (l : List ℕ) → ((i : ℕ) → i < length l → get_or l i 0 < 3 ^ m) → Boxes m l
  unfolding Boxes
  boxes_all [] h = tt
  boxes_all (a ∷ l) h = (h 0 (omega arith), boxes_all l (λ i k. h (suc i) (omega arith)))

  pub covered_at : (l : List ℕ) (i c : ℕ) → i < length l → contains m (get_or l i 0) c ≡ true → covered m l c ≡ true
  covered_at [] i c h e = absurd (not-suc-le-zero h)
  covered_at (a ∷ l) zero c h e = covered_in m a l c e
  covered_at (a ∷ l) (suc i) c h e =
      if (contains m a c) (λ y. covered_in m a l c y) (λ n. covered_out m a l c n ∙ covered_at l i c (omega arith) e)

  pub covered_by : (l : List ℕ) (c : ℕ) → covered m l c ≡ true → (i : ℕ) × (i < length l) × (contains m (get_or l i 0) c ≡ true)
  unfolding covered
  covered_by [] c e = absurd (false≢true e)
  covered_by (a ∷ l) c e =
      if (contains m a c)
      (λ y. (0, omega arith, y))
      (λ n. let r = covered_by l c (sym (covered_out m a l c n) ∙ e) in (suc r.0, omega (arith, r.1), r.2))

  pub apart_at : (l : List ℕ) → Apart m l → (i j : ℕ) → i < length l → j < i → Joined m (get_or l j 0) (get_or l i 0) → ⊥
  unfolding Apart
  apart_at [] p i j h k s = absurd (not-suc-le-zero h)
  apart_at (a ∷ l) p zero j h k s = absurd (not-suc-le-zero k)
  apart_at (a ∷ l) p (suc i) zero h k s = clash (covered_at l i s.0 (omega arith) s.2) (p.0 s.0 s.1)
  apart_at (a ∷ l) p (suc i) (suc j) h k s = apart_at l p.1 i j (omega arith) (omega arith) s

  pub apart_all : (l : List ℕ) → ((i j : ℕ) → i < length l → j < i → Joined m (get_or l j 0) (get_or l i 0) → ⊥) → Apart m l
  unfolding Apart
  apart_all [] h = tt
  apart_all (a ∷ l) h = (
    λ c e. if (covered m l c) (λ y. let r = covered_by l c y in absurd (h (suc r.0) 0 (omega (arith, r.1)) (omega arith) (c, e, r.2))) (λ n. n),
    apart_all l (λ i j k q. h (suc i) (suc j) (omega arith) (omega arith)),
  )
