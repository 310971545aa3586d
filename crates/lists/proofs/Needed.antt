-- Each box of a shortest list contains a combination that is needed: without the box the list would still fit.
use mathlib.Core.Path.{◌≡◌, refl, sym, ap, ◌∙◌}
use mathlib.Core.Bool.{Bool, true, false, ◌&&◌}
use mathlib.Core.List.{List, [], ◌∷◌}
use Prim.Native.Nat.{ℕ, zero, suc, ◌+◌, ◌^◌, ◌<◌}
use native.Mathlib.Nat.{not-suc-le-zero}
use native.Mathlib.Omega.{arith}
use lib.ListN.{length, get_or}
use Rattle.ground.proofs.Cases.{if, below_or, and_left, and_right}
use Rattle.boxes.specs.Boxes.{contains}
use Rattle.boxes.specs.Sums.{sum_over, only}
use Rattle.boxes.proofs.Boxes.{contains_combination}
use Rattle.lists.specs.Lists.{Boxes, Fits, lowest_needed, FirstShortest}
use Rattle.lists.proofs.Count.{times, counted, fits_counted}
use Rattle.lists.proofs.Fit.{lowest-true, lowest-le}

-- a list without the box at a place
unfoldable without : ℕ → List ℕ → List ℕ
without i [] = []
without zero (b ∷ l) = l
without (suc i) (b ∷ l) = b ∷ without i l

without_length : (l : List ℕ) (i : ℕ) → i < length l → length l ≡ suc (length (without i l))
unfolding without
without_length [] i h = absurd (not-suc-le-zero h)
without_length (b ∷ l) zero h = refl
without_length (b ∷ l) (suc i) h = ap suc (without_length l i (omega arith))

module _ (m : ℕ) where
  without_boxes : (l : List ℕ) (i : ℕ) → Boxes m l → Boxes m (without i l)
  unfolding without Boxes
  without_boxes [] i b = tt
  without_boxes (a ∷ l) zero b = b.1
  without_boxes (a ∷ l) (suc i) b = (b.0, without_boxes l i b.1)

  without_times : (l : List ℕ) (i c : ℕ) → i < length l → times m l c ≡ only (contains m (get_or l i 0) c) 1 + times m (without i l) c
  unfolding without times sum_over
  without_times [] i c h = absurd (not-suc-le-zero h)
  without_times (a ∷ l) zero c h = refl
  without_times (a ∷ l) (suc i) c h = omega (arith, without_times l i c (omega arith))

  -- nothing that is needed lies in the box
  without_fits : {need room : ℕ → Bool} (l : List ℕ) (i : ℕ) → i < length l → ((c : ℕ) → need c ≡ true → contains m (get_or l i 0) c ≡ false) → Fits m need room l
      → Fits m need room (without i l)
  without_fits l i h none f =
      let g = counted m f in
      fits_counted m (record {
        boxes = without_boxes l i g.boxes;
        once = λ c. omega (arith, without_times l i c h, g.once c);
        covers = λ c e. sym (without_times l i c h ∙ rw (none c e) (omega arith)) ∙ g.covers c e;
        inside = λ c e. omega (arith, without_times l i c h, g.inside c e);
      })

  pub each_needed : {need room : ℕ → Bool} {l : List ℕ} → FirstShortest m need room l → (i : ℕ) → i < length l
      → (c : ℕ) × (need c ≡ true) × (contains m (get_or l i 0) c ≡ true)
  each_needed {need} {room} {l} f i h =
      let b = get_or l i 0 in
      let low = lowest_needed m need b in
      below_or low (2 ^ m)
      (λ k. let e = lowest-true m (λ c. need c && contains m b c) k in (low, and_left _ _ e, and_right (need low) _ e))
      (λ k. absurd (omega (
        arith,
        without_length l i h,
        f.shortest (without i l) (without_fits l i h
            (λ c e. if (contains m b c) (λ t. absurd (omega (arith, lowest-le m (λ c. need c && contains m b c) c (rw (e, t)) (contains_combination m b c t), contains_combination m b c t))) (λ t. t))
            f.fits),
      )))
