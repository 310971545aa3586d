-- The counting form of a fitting list: how many boxes contain a combination. Of boxes that share nothing at most one does, so that what they
-- hold of a combination, added up over the list, is what it has where it is covered.
use mathlib.Core.Path.{◌≡◌, refl, sym, ◌∙◌}
use mathlib.Core.Bool.{Bool, true, false, ◌||◌, false≢true}
use mathlib.Core.List.{List, [], ◌∷◌, ◌++◌}
use Prim.Native.Nat.{ℕ, ◌+◌, ◌^◌, ◌≤◌}
use native.Mathlib.Omega.{arith}
use Rattle.boxes.specs.Sums.{sum, sum_over, only}
use Rattle.boxes.specs.Boxes.{contains, sum_in}
use Rattle.ground.proofs.Cases.{if, clash}
use Rattle.boxes.proofs.Sums.{sum_ext, sum_exchange}
use Rattle.lists.specs.Lists.{Boxes, covered, Apart, Fits}

-- how many boxes of the list contain c
unfoldable pub times : ℕ → List ℕ → ℕ → ℕ
times m l c = sum_over l (λ b. only (contains m b c) 1)

-- No combination lies in two boxes, each that is needed lies in one, and none lies in a box that has no room for it.
pub record Counted (m : ℕ) (need room : ℕ → Bool) (l : List ℕ) : Type 0 where
  pub boxes : Boxes m l
  pub once : (c : ℕ) → times m l c ≤ 1
  pub covers : (c : ℕ) → need c ≡ true → times m l c ≡ 1
  pub inside : (c : ℕ) → room c ≡ false → times m l c ≡ 0

module _ (m : ℕ) where
  pub covered_in : (b : ℕ) (l : List ℕ) (c : ℕ) → contains m b c ≡ true → covered m (b ∷ l) c ≡ true
  unfolding covered
  covered_in b l c e = rw e

  pub covered_more : (b : ℕ) (l : List ℕ) (c : ℕ) → covered m l c ≡ true → covered m (b ∷ l) c ≡ true
  unfolding covered
  covered_more b l c e = if (contains m b c) (λ t. rw t) (λ t. rw (t, e))

  pub covered_out : (b : ℕ) (l : List ℕ) (c : ℕ) → contains m b c ≡ false → covered m (b ∷ l) c ≡ covered m l c
  unfolding covered
  covered_out b l c e = rw e

  -- one box more covers its own combinations, and no more
  pub covered_last : (l : List ℕ) (b c : ℕ) → covered m (l ++ b ∷ []) c ≡ (covered m l c || contains m b c)
  unfolding covered
  covered_last [] b c = if (contains m b c) (λ e. rw e) (λ e. rw e)
  covered_last (a ∷ l) b c = if (contains m a c) (λ e. rw e) (λ e. rw (e, covered_last l b c))

  pub times_in : (b : ℕ) (l : List ℕ) (c : ℕ) → contains m b c ≡ true → times m (b ∷ l) c ≡ 1 + times m l c
  unfolding times sum_over
  times_in b l c e = rw e

  pub times_out : (b : ℕ) (l : List ℕ) (c : ℕ) → contains m b c ≡ false → times m (b ∷ l) c ≡ times m l c
  unfolding times sum_over
  times_out b l c e = rw e (omega arith)

  uncovered_times : (l : List ℕ) (c : ℕ) → covered m l c ≡ false → times m l c ≡ 0
  unfolding times sum_over
  uncovered_times [] c e = refl
  uncovered_times (b ∷ l) c e = if (contains m b c)
      (λ t. absurd (clash (covered_in b l c t) e))
      (λ t. times_out b l c t ∙ uncovered_times l c (sym (covered_out b l c t) ∙ e))

  covered_times : (l : List ℕ) (c : ℕ) → covered m l c ≡ true → 1 ≤ times m l c
  unfolding covered
  covered_times [] c e = absurd (false≢true e)
  covered_times (b ∷ l) c e = if (contains m b c)
      (λ t. omega (arith, times_in b l c t))
      (λ t. omega (arith, times_out b l c t, covered_times l c (sym (covered_out b l c t) ∙ e)))

  -- what boxes that share nothing hold of a combination
  pub apart_sum : (l : List ℕ) (c x : ℕ) → Apart m l → sum_over l (λ b. only (contains m b c) x) ≡ only (covered m l c) x
  unfolding sum_over Apart covered
  apart_sum [] c x a = refl
  apart_sum (b ∷ l) c x a = if (contains m b c)
      (λ e. rw (e, apart_sum l c x a.1, a.0 c e) (omega arith))
      (λ e. rw (e, apart_sum l c x a.1) (omega arith))

  apart_once : (l : List ℕ) → Apart m l → (c : ℕ) → times m l c ≤ 1
  unfolding times
  apart_once l a c = if (covered m l c)
      (λ e. let h = apart_sum l c 1 a in omega (arith, rw e at h))
      (λ e. let h = apart_sum l c 1 a in omega (arith, rw e at h))

  once_apart : (l : List ℕ) → ((c : ℕ) → times m l c ≤ 1) → Apart m l
  unfolding Apart
  once_apart [] h = tt
  once_apart (b ∷ l) h = (
    λ c t. if (covered m l c) (λ e. absurd (omega (arith, h c, times_in b l c t, covered_times l c e))) (λ e. e),
    once_apart l (λ c. if (contains m b c) (λ t. omega (arith, h c, times_in b l c t)) (λ t. omega (arith, h c, times_out b l c t))),
  )

  -- THE TWO FORMS ARE ONE
  module _ {need room : ℕ → Bool} {l : List ℕ} where
    pub counted : Fits m need room l → Counted m need room l
    counted f = record {
      boxes = f.boxes;
      once = apart_once l f.apart;
      covers = λ c t. omega (arith, apart_once l f.apart c, covered_times l c (f.covers c t));
      inside = λ c t. if (covered m l c) (λ e. absurd (clash (f.inside c e) t)) (uncovered_times l c);
    }

    pub fits_counted : Counted m need room l → Fits m need room l
    fits_counted f = record {
      boxes = f.boxes;
      apart = once_apart l f.once;
      covers = λ c t. if (covered m l c) (λ e. e) (λ e. absurd (omega (arith, uncovered_times l c e, f.covers c t)));
      inside = λ c t. if (room c) (λ e. e) (λ e. absurd (omega (arith, covered_times l c t, f.inside c e)));
    }

  -- the sums of boxes that share nothing are together the sum over what they cover, over the first n combinations
  pub lines_upto : (n : ℕ) (l : List ℕ) (f : ℕ → ℕ) → Apart m l
      → sum_over l (λ b. sum n (λ c. only (contains m b c) (f c))) ≡ sum n (λ c. only (covered m l c) (f c))
  lines_upto n l f a = sum_exchange n l (λ b c. only (contains m b c) (f c)) ∙ sum_ext n _ _ (λ c h. apart_sum l c (f c) a)

  -- and over all
  pub lines_sum : (l : List ℕ) (f : ℕ → ℕ) → Apart m l → sum_over l (λ b. sum_in m b f) ≡ sum (2 ^ m) (λ c. only (covered m l c) (f c))
  unfolding sum_in
  lines_sum = lines_upto (2 ^ m)
