-- A list fits exactly if it has no fault; and what was found fault by fault, in their order, is the first place of the first one.
use Prim.Native.Nat.{ℕ, zero, suc, ◌+◌, ◌^◌, ◌<◌, ◌≤◌}
use mathlib.Core.Path.{◌≡◌, refl, sym, ◌∙◌, ap, subst, transport}
use mathlib.Core.Bool.{Bool}
use mathlib.Core.List.{List}
use native.Mathlib.Omega.{arith}
use lib.ListN.{length}
use Rattle.ground.proofs.Cases.{if, clash, below_or, same_or}
use Rattle.lists.specs.Lists.{Boxes, covered, Fits}
use Rattle.lists.proofs.Places.{boxes_at, boxes_all, covered_at, covered_by, apart_at, apart_all}
use Rattle.checking.specs.declared.Fault.{Fault}
use Rattle.checking.specs.declared.Fault.TheVariants as fault
use Rattle.checking.specs.Finding.{Finding}
use Rattle.checking.specs.Finding.Finding.{Fitting, Faulty}
use Rattle.checking.specs.Faults.{NoBox, Overlaps, Leaves, Uncovered, Has, fault_number, Judged}
use Rattle.checking.specs.Parts.{FirstAt, Nowhere}

-- the fault of a number
numbered : ℕ → Fault
numbered zero = fault.NoBox
numbered (suc zero) = fault.NoBox
numbered (suc (suc zero)) = fault.Overlap
numbered (suc (suc (suc zero))) = fault.Leaves
numbered (suc (suc (suc (suc n)))) = fault.Uncovered

numbered_back : (f : Fault) → numbered (fault_number f) ≡ f
unfolding numbered
numbered_back fault.NoBox = refl
numbered_back fault.Overlap = refl
numbered_back fault.Leaves = refl
numbered_back fault.Uncovered = refl

number_in : (f : Fault) → (1 ≤ fault_number f) × (fault_number f ≤ 4)
number_in fault.NoBox = (omega arith, omega arith)
number_in fault.Overlap = (omega arith, omega arith)
number_in fault.Leaves = (omega arith, omega arith)
number_in fault.Uncovered = (omega arith, omega arith)

pub number_same : (f g : Fault) → fault_number f ≡ fault_number g → f ≡ g
number_same f g e = sym (numbered_back f) ∙ ap numbered e ∙ numbered_back g

module _ (m : ℕ) (need room : ℕ → Bool) (l : List ℕ) where
  pub fits_faultless : Fits m need room l → (f : Fault) (i : ℕ) → Has m need room l f i → ⊥
  fits_faultless t fault.NoBox i x = omega (arith, x.1, boxes_at m l i t.boxes x.0)
  fits_faultless t fault.Overlap i x = apart_at m l t.apart i x.1.0 x.0 x.1.1 x.1.2
  fits_faultless t fault.Leaves i x = clash (t.inside x.1.0 (covered_at m l i x.1.0 x.0 x.1.1)) x.1.2
  fits_faultless t fault.Uncovered c x = clash (t.covers c x.0) x.1

  boxes_fit : ((i : ℕ) → Has m need room l fault.NoBox i → ⊥) → Boxes m l
  boxes_fit n = boxes_all m l (λ i h. below_or _ (3 ^ m) (λ k. k) (λ k. absurd (n i (h, k))))

  pub faultless_fits : ((f : Fault) (i : ℕ) → Has m need room l f i → ⊥) → Fits m need room l
  faultless_fits n = record {
    boxes = boxes_fit (n fault.NoBox);
    apart = apart_all m l (λ i j h k s. n fault.Overlap i (h, (j, k, s)));
    covers = λ c e. if (covered m l c) (λ y. y) (λ y. absurd (n fault.Uncovered c (e, y)));
    inside = λ c e. let r = covered_by m l c e in if (room c) (λ y. y) (λ y. absurd (n fault.Leaves r.0 (r.1, (c, r.2, y))));
  }

  -- none of the faults whose number is below k
  abbrev pub Without : ℕ → Type 0
  Without k = (g : Fault) → fault_number g < k → (j : ℕ) → Has m need room l g j → ⊥

  without_one : Without 1
  without_one g h = absurd (omega (arith, (number_in g).0))

  without_more : (f : Fault) → Without (fault_number f) → ((j : ℕ) → Has m need room l f j → ⊥) → Without (fault_number f + 1)
  without_more f w n g h j x =
      same_or (fault_number g) (fault_number f)
      (λ e. n j (subst (λ (y : Fault). Has m need room l y j) (number_same g f e) x))
      (λ d. w g (omega arith) j x)

  -- what was sought and found
  place : (f : Fault) (P : ℕ → Type 0) (i : ℕ) → ((j : ℕ) → Has m need room l f j ≡ ((j < length l) × P j)) → Without (fault_number f) → FirstAt l P i
      → Judged m need room l (Faulty f i)
  place f P i e w s = Judged.faulty record {
    here = transport (sym (e i)) (s.inside, s.here);
    first_place = λ j k x. s.none_before j k (transport (e j) x).1;
    first_kind = w;
  }

  -- kind by kind, each of which is sought where none of those before was found

  pub no_box_at : (i : ℕ) → FirstAt l (NoBox m l) i → Judged m need room l (Faulty fault.NoBox i)
  no_box_at i = place fault.NoBox (NoBox m l) i (λ j. refl) without_one

  pub all_boxes : Nowhere l (NoBox m l) → Without 2
  all_boxes n = without_more fault.NoBox without_one (λ j x. n j x.0 x.1)

  pub each_box : Nowhere l (NoBox m l) → Boxes m l
  each_box n = boxes_fit (λ i x. n i x.0 x.1)

  pub overlap_at : Without 2 → (f : Fault) (i : ℕ) → f ≡ fault.Overlap → FirstAt l (Overlaps m l) i → Judged m need room l (Faulty f i)
  overlap_at w f i e s = subst (λ (g : Fault). Judged m need room l (Faulty g i)) (sym e) (place fault.Overlap (Overlaps m l) i (λ j. refl) w s)

  pub all_apart : Without 2 → Nowhere l (Overlaps m l) → Without 3
  all_apart w n = without_more fault.Overlap w (λ j x. n j x.0 x.1)

  pub leaves_at : Without 3 → (i : ℕ) → FirstAt l (Leaves m room l) i → Judged m need room l (Faulty fault.Leaves i)
  leaves_at w i = place fault.Leaves (Leaves m room l) i (λ j. refl) w

  pub all_inside : Without 3 → Nowhere l (Leaves m room l) → Without 4
  all_inside w n = without_more fault.Leaves w (λ j x. n j x.0 x.1)

  pub uncovered_at : Without 4 → (c : ℕ) → Uncovered m need l c → ((d : ℕ) → d < c → Uncovered m need l d → ⊥) → Judged m need room l (Faulty fault.Uncovered c)
  uncovered_at w c x n = Judged.faulty record { here = x; first_place = n; first_kind = w }

  pub all_covered : Without 4 → ((c : ℕ) → Uncovered m need l c → ⊥) → Judged m need room l Fitting
  all_covered w n = Judged.fits (faultless_fits (λ f. without_more fault.Uncovered w n f (omega (arith, (number_in f).1))))

-- what is found for two sets is found for what they are known to be
pub judged_told : {m : ℕ} {p q need room : ℕ → Bool} {l : List ℕ} {x : Finding} → p ≡ need → q ≡ room → Judged m p q l x → Judged m need room l x
judged_told {m} {p} {q} {need} {room} {l} {x} e f j =
    subst (λ (y : ℕ → Bool). Judged m need y l x) f (subst (λ (y : ℕ → Bool). Judged m y q l x) e j)
