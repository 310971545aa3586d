-- Fitting lists, a box at a time: a list with a box in front fits exactly if the box lies in the room and the rest fits what the box leaves.
use mathlib.Core.Path.{◌≡◌, refl, sym, ap, ◌∙◌}
use mathlib.Core.Bool.{Bool, true, false, not, ◌&&◌, ◌||◌, or-true, false≢true}
use mathlib.Core.List.{List, [], ◌∷◌, ◌++◌}
use Prim.Native.Nat.{ℕ, zero, suc, ◌+◌, ◌^◌, ◌<◌, ◌≤◌, zero-le}
use native.Mathlib.Omega.{arith}
use lib.ListN.{length}
use borrow.Author.Tests.{not-true}
use Rattle.boxes.specs.Boxes.{contains}
use Rattle.boxes.specs.Sums.{sum_over}
use Rattle.ground.proofs.Cases.{if, clash, below_or, and_left, and_right}
use Rattle.lists.specs.Lists.{Boxes, covered, Apart, Fits, Within, first_from, lowest_of}
use Rattle.lists.proofs.Count.{times, covered_in, covered_out, counted, fits_counted}

-- ---- the first number in a set
pub first_hit : (p : ℕ → Bool) (k f : ℕ) → p f ≡ true → first_from p (suc k) f ≡ f
unfolding first_from
first_hit p k f e = rw (e, first_from)

pub first_miss : (p : ℕ → Bool) (k f : ℕ) → p f ≡ false → first_from p (suc k) f ≡ first_from p k (suc f)
unfolding first_from
first_miss p k f e = rw (e, first_from)

first_none : (p : ℕ → Bool) (f : ℕ) → first_from p zero f ≡ f
unfolding first_from
first_none p f = refl

first_true : (p : ℕ → Bool) (k f : ℕ) → first_from p k f < f + k → p (first_from p k f) ≡ true
first_true p zero f h = absurd (omega (arith, first_none p f))
first_true p (suc k) f h = if (p f)
    (λ e. ap p (first_hit p k f e) ∙ e)
    (λ e. ap p (first_miss p k f e) ∙ first_true p k (suc f) (omega (arith, first_miss p k f e)))

first_le : (p : ℕ → Bool) (k f c : ℕ) → p c ≡ true → f ≤ c → c < f + k → first_from p k f ≤ c
first_le p zero f c t l h = absurd (omega arith)
first_le p (suc k) f c t l h = if (p f)
    (λ e. omega (arith, first_hit p k f e))
    (λ e. below_or f c
    (λ q. omega (arith, first_miss p k f e, first_le p k (suc f) c t (omega arith) (omega arith)))
    (λ q. let d : c ≡ f = omega arith in absurd (clash t (ap p d ∙ e))))

pub lowest-true : (m : ℕ) (p : ℕ → Bool) → lowest_of m p < 2 ^ m → p (lowest_of m p) ≡ true
lowest-true m p h = first_true p (2 ^ m) 0 (omega arith)

pub lowest-le : (m : ℕ) (p : ℕ → Bool) (c : ℕ) → p c ≡ true → c < 2 ^ m → lowest_of m p ≤ c
lowest-le m p c t h = first_le p (2 ^ m) 0 c t zero-le (omega arith)

-- the combination in the set below which none is, is the lowest
pub lowest-is : (m : ℕ) (p : ℕ → Bool) (c : ℕ) → p c ≡ true → c < 2 ^ m → ((d : ℕ) → d < c → p d ≡ false) → lowest_of m p ≡ c
lowest-is m p c t h none =
    let le = lowest-le m p c t h in
    below_or (lowest_of m p) c
    (λ q. absurd (clash (lowest-true m p (omega arith)) (none (lowest_of m p) q)))
    (λ q. omega (arith, le))

-- ---- a set less a box
abbrev pub less : ℕ → (ℕ → Bool) → ℕ → ℕ → Bool
less m p b c = p c && not (contains m b c)

-- the box lies in the set
abbrev pub Inside : ℕ → ℕ → (ℕ → Bool) → Type 0
Inside m b room = (c : ℕ) → contains m b c ≡ true → room c ≡ true

module _ (m : ℕ) where
  pub less_in : (p : ℕ → Bool) (b c : ℕ) → p c ≡ true → contains m b c ≡ false → less m p b c ≡ true
  less_in p b c e f = rw (e, f)

  pub less_out : (p : ℕ → Bool) (b c : ℕ) → contains m b c ≡ true → less m p b c ≡ false
  less_out p b c e = if (p c) (λ t. rw (t, e)) (λ t. rw t)

  module _ {need room : ℕ → Bool} {b : ℕ} {l : List ℕ} where
    pub fits_tail : Fits m need room (b ∷ l) → Fits m (less m need b) (less m room b) l
    unfolding Boxes Apart covered
    fits_tail f = record {
      boxes = f.boxes.1;
      apart = f.apart.1;
      covers = λ c t. sym (covered_out m b l c (not-true _ (and_right (need c) _ t))) ∙ f.covers c (and_left _ _ t);
      inside = λ c t. less_in room b c (f.inside c (ap (λ (x : Bool). contains m b c || x) t ∙ or-true (contains m b c)))
          (if (contains m b c) (λ e. absurd (clash t (f.apart.0 c e))) (λ e. e));
    }

    pub fits_cons : b < 3 ^ m → Inside m b room → Fits m (less m need b) (less m room b) l → Fits m need room (b ∷ l)
    unfolding Boxes Apart
    fits_cons h w f = record {
      boxes = (h, f.boxes);
      apart = (λ c e. if (covered m l c) (λ t. absurd (clash (f.inside c t) (less_out room b c e))) (λ t. t), f.apart);
      covers = λ c t. if (contains m b c) (covered_in m b l c) (λ e. covered_out m b l c e ∙ f.covers c (less_in need b c t e));
      inside = λ c t. if (contains m b c) (w c) (λ e. and_left _ _ (f.inside c (sym (covered_out m b l c e) ∙ t)));
    }

    pub fits_head : Fits m need room (b ∷ l) → Inside m b room
    fits_head f c e = f.inside c (covered_in m b l c e)

  -- nothing is needed: the empty list fits
  pub fits_none : (need room : ℕ → Bool) → ((c : ℕ) → need c ≡ true → ⊥) → Fits m need room []
  unfolding Boxes Apart covered
  fits_none need room h = record { boxes = tt; apart = tt; covers = λ c t. absurd (h c t); inside = λ c t. absurd (false≢true t) }

  -- more room
  pub fits_room : {need room : ℕ → Bool} (more : ℕ → Bool) {l : List ℕ} → Within room more → Fits m need room l → Fits m need more l
  fits_room more h f = record { boxes = f.boxes; apart = f.apart; covers = f.covers; inside = λ c t. h c (f.inside c t) }

  -- what is needed has room wherever a list fits
  pub fits_within : {need room : ℕ → Bool} {l : List ℕ} → Fits m need room l → Within need room
  fits_within f c t = f.inside c (f.covers c t)

  -- ---- in any order: the box on a combination is drawn to the front
  pub record Drawn (c : ℕ) (k : List ℕ) : Type 0 where
    pub box : ℕ
    pub rest : List ℕ
    pub here : contains m box c ≡ true
    pub same_times : (d : ℕ) → times m k d ≡ times m (box ∷ rest) d
    pub size : length k ≡ suc (length rest)
    pub boxes : Boxes m k → Boxes m (box ∷ rest)

  draw : (c : ℕ) (k : List ℕ) → covered m k c ≡ true → Drawn c k
  unfolding covered times sum_over Boxes
  draw c [] e = absurd (false≢true e)
  draw c (a ∷ k) e = if (contains m a c)
      (λ t. record { box = a; rest = k; here = t; same_times = λ d. refl; size = refl; boxes = λ b. b })
      (λ t.
      let r = draw c k (sym (covered_out m a k c t) ∙ e) in
      record {
        box = r.box;
        rest = a ∷ r.rest;
        here = r.here;
        same_times = λ d. omega (arith, r.same_times d);
        size = ap suc r.size;
        boxes = λ b. ((r.boxes b.1).0, (b.0, (r.boxes b.1).1));
      })

  -- two neighbours change places
  swapped_times : (k : List ℕ) (a b : ℕ) (l : List ℕ) (c : ℕ) → times m (k ++ b ∷ a ∷ l) c ≡ times m (k ++ a ∷ b ∷ l) c
  unfolding times sum_over
  swapped_times [] a b l c = omega arith
  swapped_times (d ∷ k) a b l c = omega (arith, swapped_times k a b l c)

  swapped_boxes : (k : List ℕ) (a b : ℕ) (l : List ℕ) → Boxes m (k ++ a ∷ b ∷ l) → Boxes m (k ++ b ∷ a ∷ l)
  unfolding Boxes
  swapped_boxes [] a b l h = (h.1.0, (h.0, h.1.1))
  swapped_boxes (d ∷ k) a b l h = (h.0, swapped_boxes k a b l h.1)

  pub fits_swapped : {need room : ℕ → Bool} (k : List ℕ) (a b : ℕ) (l : List ℕ) → Fits m need room (k ++ a ∷ b ∷ l) → Fits m need room (k ++ b ∷ a ∷ l)
  fits_swapped k a b l f =
      let g = counted m f in
      fits_counted m (record {
        boxes = swapped_boxes k a b l g.boxes;
        once = λ c. omega (arith, swapped_times k a b l c, g.once c);
        covers = λ c e. swapped_times k a b l c ∙ g.covers c e;
        inside = λ c e. swapped_times k a b l c ∙ g.inside c e;
      })

  -- a fitting list with the box on a needed combination in front
  pub record Fronted (need room : ℕ → Bool) (c : ℕ) (k : List ℕ) : Type 0 where
    pub box : ℕ
    pub rest : List ℕ
    pub here : contains m box c ≡ true
    pub size : length k ≡ suc (length rest)
    pub fits : Fits m need room (box ∷ rest)

  pub fronted : {need room : ℕ → Bool} (c : ℕ) (k : List ℕ) → need c ≡ true → Fits m need room k → Fronted need room c k
  fronted c k t f =
      let r = draw c k (f.covers c t) in
      let g = counted m f in
      record {
        box = r.box;
        rest = r.rest;
        here = r.here;
        size = r.size;
        fits = fits_counted m (record {
          boxes = r.boxes g.boxes;
          once = λ d. rw (← r.same_times d) (g.once d);
          covers = λ d e. sym (r.same_times d) ∙ g.covers d e;
          inside = λ d e. sym (r.same_times d) ∙ g.inside d e;
        });
      }
