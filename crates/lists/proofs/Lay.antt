-- Laying boxes one after the other on the lowest needed combination c, where every fitting list has `left` boxes and one more: the boxes through c
-- are tried in rising number, and the first that leaves a list of `left` boxes is the front of the first shortest list.
use mathlib.Core.Path.{◌≡◌, refl, sym, ap, ◌∙◌, subst}
use mathlib.Core.Bool.{Bool, true, false≢true}
use mathlib.Core.List.{List, [], ◌∷◌}
use mathlib.Core.Logic.{◌⊎◌, inl, inr}
use Prim.Native.Nat.{ℕ, ◌+◌, ◌^◌, ◌<◌, ◌≤◌, zero-le}
use native.Mathlib.Nat.{not-suc-le-zero}
use native.Mathlib.Omega.{arith}
use lib.ListN.{length}
use Rattle.boxes.specs.Boxes.{contains, through}
use Rattle.ground.proofs.Cases.{below_or}
use Rattle.boxes.proofs.Choices.{through-lt, through_rises, through-contains, through_free, free_marks, free_marks_lt}
use Rattle.lists.specs.Lists.{covered, Fits, lowest_of, Rising, Smaller, Before, FirstShortest, AtLeast, Small}
use Rattle.lists.proofs.Fit.{less, Inside, lowest-true, lowest-le, fits_tail, fits_cons, fits_head, fits_none, fronted}
use Rattle.lists.proofs.Order.{away_rest, rising_tail, rising_cons, head_has}

module _ (m : ℕ) (need room : ℕ → Bool) where
  pub none_needed : Small m need → 2 ^ m ≤ lowest_of m need → (c : ℕ) → need c ≡ true → ⊥
  none_needed s h c e = omega (arith, lowest-le m need c e (s c e), s c e)

  -- nothing is needed: the empty list is the first shortest
  pub first_empty : ((c : ℕ) → need c ≡ true → ⊥) → FirstShortest m need room []
  unfolding Rising
  first_empty none = record { fits = fits_none m need room none; rising = tt; shortest = λ k f. zero-le; first = λ k f r. empty k }
    where
      empty : (k : List ℕ) → ([] ≡ k) ⊎ Before [] k
      empty [] = inl refl
      empty (b ∷ k) = inr (inl (omega arith))

  -- something is needed: a list has a box
  pub some_box : (c : ℕ) → need c ≡ true → AtLeast m need room 1
  unfolding covered
  some_box c t [] f = absurd (false≢true (f.covers c t))
  some_box c t (b ∷ l) f = omega arith

  module _ (left : ℕ) where
    -- every list with the box b in front has more than `left` others
    abbrev pub Longer : ℕ → Type 0
    Longer b = (l : List ℕ) → Fits m need room (b ∷ l) → left < length l

    -- so it is with each of the boxes through c of the turns before t
    abbrev pub Tried : ℕ → ℕ → Type 0
    Tried c t = (u : ℕ) → u < t → Longer (through m c u)

    pub tried_none : (c : ℕ) → Tried c 0
    tried_none c u h = absurd (not-suc-le-zero h)

    pub tried_next : (c t : ℕ) → Tried c t → Longer (through m c t) → Tried c (t + 1)
    tried_next c t h g u l = below_or u t (h u) (λ q. let e : t ≡ u = omega arith in subst (λ (v : ℕ). Longer (through m c v)) e g)

    -- a box that does not lie in the room, or leaves no list of `left` boxes
    pub longer_out : (b : ℕ) → (Inside m b room → ⊥) → Longer b
    longer_out b h l f = absurd (h (fits_head m f))

    pub longer_deep : (b : ℕ) → AtLeast m (less m need b) (less m room b) (left + 1) → Longer b
    longer_deep b h l f = omega (arith, h l (fits_tail m f))

    module _ (least : AtLeast m need room (left + 1)) where
      -- what a box leaves has no list of fewer boxes
      pub least_rest : (b : ℕ) → b < 3 ^ m → Inside m b room → AtLeast m (less m need b) (less m room b) left
      least_rest b h w l f = omega (arith, least (b ∷ l) (fits_cons m h w f))

      module _ (c : ℕ) (lowest : lowest_of m need ≡ c) (small : c < 2 ^ m) where
        some_need : lowest_of m need < 2 ^ m
        some_need = omega (arith, lowest, small)

        lowest_needed_is : need c ≡ true
        lowest_needed_is = ap need (sym lowest) ∙ lowest-true m need some_need

        -- THE HIT: the box of turn t leaves a first shortest list of `left` boxes, and no box before it does
        module _ (t : ℕ) (tried : Tried c t) (l : List ℕ) (inside : Inside m (through m c t) room)
            (rest : FirstShortest m (less m need (through m c t)) (less m room (through m c t)) l) (size : length l ≡ left) where
          laid_fits : Fits m need room (through m c t ∷ l)
          laid_fits = fits_cons m (through-lt m c t) inside rest.fits

          -- against a list with the same box in front
          laid_same : (k : List ℕ) → length k ≡ left → Fits m need room (through m c t ∷ k) → Rising m need (through m c t ∷ k) → (l ≡ k) ⊎ Smaller l k
          laid_same k e f r = go (rest.first k (fits_tail m f) (rising_tail m need (through m c t) k (away_rest m f) r))
            where
              go : (l ≡ k) ⊎ Before l k → (l ≡ k) ⊎ Smaller l k
              go (inl p) = inl p
              go (inr (inl p)) = absurd (omega arith)
              go (inr (inr p)) = inr p.1

          -- against a list of as many boxes
          laid_tied : (a : ℕ) (k : List ℕ) → length k ≡ left → Fits m need room (a ∷ k) → Rising m need (a ∷ k)
              → ((through m c t ∷ l) ≡ (a ∷ k)) ⊎ Smaller (through m c t ∷ l) (a ∷ k)
          unfolding Smaller
          laid_tied a k e f r =
              let u = free_marks m a in
              let here : contains m a c ≡ true = ap (contains m a) (sym lowest) ∙ head_has m need a some_need f r in
              let is : through m c u ≡ a = through_free m a c here in
              below_or u t
              (λ p. absurd (omega (arith, tried u p k (subst (λ (x : ℕ). Fits m need room (x ∷ k)) (sym is) f), e)))
              (λ p. below_or t u
              (λ q. inr (inl (omega (arith, through_rises m c t u q (free_marks_lt m a), is))))
              (λ q.
              let same : a ≡ through m c t = let d : u ≡ t = omega arith in sym is ∙ ap (through m c) d in
              go same (laid_same k e (subst (λ (x : ℕ). Fits m need room (x ∷ k)) same f) (subst (λ (x : ℕ). Rising m need (x ∷ k)) same r))))
            where
              go : a ≡ through m c t → (l ≡ k) ⊎ Smaller l k → ((through m c t ∷ l) ≡ (a ∷ k)) ⊎ ((through m c t < a) ⊎ ((through m c t ≡ a) × Smaller l k))
              go s (inl p) = inl cc
              go s (inr p) = inr (inr (sym s, p))

          laid_first : (k : List ℕ) → Fits m need room k → Rising m need k → ((through m c t ∷ l) ≡ k) ⊎ Before (through m c t ∷ l) k
          laid_first [] f r = absurd (omega (arith, least [] f))
          laid_first (a ∷ k) f r = below_or left (length k)
              (λ h. inr (inl (omega (arith, size))))
              (λ h. let e : length k ≡ left = omega (arith, least (a ∷ k) f) in go e (laid_tied a k e f r))
            where
              go : length k ≡ left → ((through m c t ∷ l) ≡ (a ∷ k)) ⊎ Smaller (through m c t ∷ l) (a ∷ k)
                  → ((through m c t ∷ l) ≡ (a ∷ k)) ⊎ Before (through m c t ∷ l) (a ∷ k)
              go e (inl p) = inl p
              go e (inr p) = inr (inr (omega (arith, size, e), p))

          pub laid_shortest : FirstShortest m need room (through m c t ∷ l)
          laid_shortest = record {
            fits = laid_fits;
            rising = rising_cons m need (through m c t) some_need (ap (contains m (through m c t)) lowest ∙ through-contains m c t small) l (away_rest m laid_fits) rest.rising;
            shortest = λ k f. omega (arith, least k f, size);
            first = laid_first;
          }

        -- THE END: all boxes through c are tried, so a fitting list has more boxes
        pub tried_all : Tried c (2 ^ m) → AtLeast m need room (left + 2)
        tried_all h k f =
            let r = fronted m c k lowest_needed_is f in
            let is = through_free m r.box c r.here in
            let g = h (free_marks m r.box) (free_marks_lt m r.box) r.rest (subst (λ (x : ℕ). Fits m need room (x ∷ r.rest)) (sym is) r.fits) in
            omega (arith, g, r.size)
