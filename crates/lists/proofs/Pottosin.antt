-- An independent set of boxes inside the class fits the class exactly if it is maximal: a combination left uncovered is a box that can be added,
-- and a box inside a covered class meets one of those that cover it. So a smallest maximal independent set is a shortest fitting list.
use mathlib.Core.Path.{◌≡◌, sym, ap, ◌∙◌}
use mathlib.Core.Bool.{Bool, true, false≢true}
use mathlib.Core.List.Memᴰ
use mathlib.Core.List.{List, [], ◌∷◌, Memᴰ}
use mathlib.Core.Logic.{◌↔◌, ⊎_elim}
use mathlib.Core.Path.{refl}
use Prim.Native.Nat.{ℕ}
use lib.ListN.{length}
use borrow.Author.Tests.{eqb-true}
use Rattle.boxes.specs.Boxes.{contains, lowest, single}
use Rattle.ground.proofs.Cases.{if, clash}
use Rattle.boxes.proofs.Choices.{through-lt, through-contains, single-contains, lowest_contained}
use Rattle.lists.specs.Lists.{Boxes, covered, Apart, Fits, FirstShortest, Small, AtLeast}
use Rattle.lists.specs.Pottosin.{Independent, Maximal, SmallestMaximal}
use Rattle.lists.proofs.Count.{covered_in, covered_out}

module _ (m : ℕ) where
  -- a combination is covered exactly if a member contains it
  member_covers : (a : ℕ) (l : List ℕ) (c : ℕ) → Memᴰ a l → contains m a c ≡ true → covered m l c ≡ true
  member_covers a [] c i e = absurd (Memᴰ.not-nil i)
  member_covers a (b ∷ l) c i e = if (contains m b c) (covered_in m b l c)
      (λ t. covered_out m b l c t ∙ ⊎_elim
      (λ q. absurd (clash (sym (ap (λ (x : ℕ). contains m x c) q) ∙ e) t))
      (λ j. member_covers a l c j e) (Memᴰ.cases_cons i))

  covers_member : (l : List ℕ) (c : ℕ) → covered m l c ≡ true → (a : ℕ) × Memᴰ a l × (contains m a c ≡ true)
  unfolding covered
  covers_member [] c e = absurd (false≢true e)
  covers_member (b ∷ l) c e = if (contains m b c)
      (λ t. (b, Memᴰ.head refl, t))
      (λ t. let r = covers_member l c (sym (covered_out m b l c t) ∙ e) in (r.0, Memᴰ.tail r.1, r.2))

  module _ (class : ℕ → Bool) where
    independent_boxes : (l : List ℕ) → Independent m class l → Boxes m l
    unfolding Independent Boxes
    independent_boxes [] i = tt
    independent_boxes (b ∷ l) i = (i.0.0, independent_boxes l i.2)

    independent_apart : (l : List ℕ) → Independent m class l → Apart m l
    unfolding Independent Apart
    independent_apart [] i = tt
    independent_apart (b ∷ l) i = (
      λ c e. if (covered m l c) (λ t. let a = covers_member l c t in absurd (i.1 a.0 a.1 (c, e, a.2))) (λ t. t),
      independent_apart l i.2,
    )

    independent_inside : (l : List ℕ) → Independent m class l → (c : ℕ) → covered m l c ≡ true → class c ≡ true
    unfolding Independent covered
    independent_inside [] i c e = absurd (false≢true e)
    independent_inside (b ∷ l) i c e = if (contains m b c) (i.0.1 c) (λ t. independent_inside l i.2 c (sym (covered_out m b l c t) ∙ e))

    apart_independent : (l : List ℕ) → Boxes m l → Apart m l → ((c : ℕ) → covered m l c ≡ true → class c ≡ true) → Independent m class l
    unfolding Independent Boxes Apart
    apart_independent [] b a i = tt
    apart_independent (d ∷ l) b a i = (
      (b.0, λ c e. i c (covered_in m d l c e)),
      λ x j s. clash (member_covers x l s.0 j s.2) (a.0 s.0 s.1),
      apart_independent l b.1 a.1 (λ c e. i c (if (contains m d c) (covered_in m d l c) (λ t. covered_out m d l c t ∙ e))),
    )

    pub fits_independent : {need : ℕ → Bool} {l : List ℕ} → Fits m need class l → Independent m class l
    fits_independent {need} {l} f = apart_independent l f.boxes f.apart f.inside

    pub fits_maximal : {l : List ℕ} → Fits m class class l → Maximal m class l
    fits_maximal {l} f b i free =
        let here = lowest_contained m b i.0 in
        let a = covers_member l (lowest m b) (f.covers (lowest m b) (i.1 (lowest m b) here)) in
        absurd (free a.0 a.1 (lowest m b, here, a.2))

    pub maximal_fits : (l : List ℕ) → Small m class → Independent m class l → Maximal m class l → Fits m class class l
    maximal_fits l s i x = record {
      boxes = independent_boxes l i;
      apart = independent_apart l i;
      covers = λ c t. if (covered m l c) (λ e. e) (λ e.
          let only_c : (d : ℕ) → contains m (single m c) d ≡ true → c ≡ d = λ d q. eqb-true c d (sym (single-contains m c d (s c t)) ∙ q) in
          absurd (clash (member_covers (single m c) l c
          (x (single m c) (through-lt m c 0, λ d q. sym (ap class (only_c d q)) ∙ t)
          (λ a j w. clash (member_covers a l c j (ap (contains m a) (only_c w.0 w.1) ∙ w.2)) e))
          (through-contains m c 0 (s c t))) e));
      inside = independent_inside l i;
    }

    -- FITTING IS BEING MAXIMAL, for boxes inside the class no two of which share a combination
    pub fits_exactly : (l : List ℕ) → Small m class → Independent m class l → Fits m class class l ↔ Maximal m class l
    fits_exactly l s i = (fits_maximal, maximal_fits l s i)

    -- A SMALLEST MAXIMAL INDEPENDENT SET IS A SHORTEST FITTING LIST, and the other way round
    pub smallest_shortest : (l : List ℕ) → Small m class → SmallestMaximal m class l ↔ (Fits m class class l × AtLeast m class class (length l))
    smallest_shortest l s = (
      λ x. (maximal_fits l s x.independent x.maximal, λ k f. x.smallest k (fits_independent f) (fits_maximal f)),
      λ y. record {
        independent = fits_independent y.0;
        maximal = fits_maximal y.0;
        smallest = λ k i x. y.1 k (maximal_fits k s i x);
      },
    )

    -- and so is the list of 01
    pub first_smallest : (l : List ℕ) → Small m class → FirstShortest m class class l → SmallestMaximal m class l
    first_smallest l s f = (smallest_shortest l s).1 (f.fits, f.shortest)
