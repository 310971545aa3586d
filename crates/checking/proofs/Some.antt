-- Every sheet and list has a finding: each fault is decided index by index, and what is not found is nowhere.
use Prim.Native.Nat.{ℕ, zero, suc, ◌^◌, ◌<◌, ◌≤◌}
use mathlib.Core.Path.{◌≡◌, refl, sym}
use mathlib.Core.Bool.{Bool, true, false}
use mathlib.Core.List.{List}
use mathlib.Core.Logic.{◌⊎◌, inl, inr, ⊎_elim}
use native.Mathlib.Omega.{arith}
use native.Mathlib.Numerals.{add-one}
use lib.ListN.{length, get_or}
use Rattle.ground.proofs.Cases.{if, clash, below_or}
use Rattle.boxes.specs.Boxes.{contains}
use Rattle.boxes.proofs.Boxes.{contains_combination}
use Rattle.lists.specs.Lists.{covered, Small}
use Rattle.lists.specs.Pottosin.{Joined}
use Rattle.sheet.specs.declared.Sheet.{Sheet}
use Rattle.sheet.proofs.Ready.{class_ready_or}
use Rattle.listing.proofs.Laid.{class_small}
use Rattle.checking.specs.declared.Fault.TheVariants as fault
use Rattle.checking.specs.Finding.{Finding}
use Rattle.checking.specs.Finding.Finding.{Spoiled, Fitting, Faulty}
use Rattle.checking.specs.Faults.{NoBox, Overlaps, Leaves, Uncovered, Judged}
use Rattle.checking.specs.Answers.{Checked}
use Rattle.checking.specs.Parts.{FirstAt, Nowhere}
use Rattle.checking.proofs.Firsts.{Passed, passed_none, passed_more}
use Rattle.checking.proofs.Faults.{no_box_at, all_boxes, overlap_at, all_apart, leaves_at, all_inside, uncovered_at, all_covered}

-- it holds, or it does not
abbrev Known : Type 0 → Type 0
Known P = P ⊎ (P → ⊥)

-- two tests at once
both : (x y : Bool) → Known ((x ≡ true) × (y ≡ true))
both x y = if x (λ a. if y (λ b. inl (a, b)) (λ b. inr (λ z. clash z.1 b))) (λ a. inr (λ z. clash z.0 a))

differ : (x y : Bool) → Known ((x ≡ true) × (y ≡ false))
differ x y = if x (λ a. if y (λ b. inr (λ z. clash b z.1)) (λ b. inl (a, b))) (λ a. inr (λ z. clash z.0 a))

module _ (P : ℕ → Type 0) (known : (i : ℕ) → Known (P i)) where
  -- the first of the numbers below n, and n where there is none
  first_below : (n : ℕ) → (i : ℕ) × (i ≤ n) × Passed P i × (i < n → P i)
  first_below zero = (0, omega arith, passed_none P, λ h. absurd (omega arith))
  first_below (suc n) =
      let r = first_below n in
      below_or r.0 n
      (λ h. (r.0, omega (arith, r.1), r.2, λ k. r.3 h))
      (λ h. ⊎_elim
      (λ x. (n, omega arith, λ j k. r.2 j (omega arith), λ k. x))
      (λ (x : P n → ⊥). (suc n, omega arith, rw (sym (add-one n)) (passed_more P n (λ j k. r.2 j (omega arith)) x), λ k. absurd (omega arith)))
      (known n))

  first_in : (l : List ℕ) → Nowhere l P ⊎ ((i : ℕ) × FirstAt l P i)
  first_in l =
      let r = first_below (length l) in
      below_or r.0 (length l)
      (λ h. inr (r.0, record { inside = h; none_before = r.2; here = r.3 h }))
      (λ h. inl (λ j k x. r.2 j (omega (arith, h, k)) x))

-- whether there is a number with two properties, where those that have the first are small
any : (P Q : ℕ → Type 0) → ((i : ℕ) → Known (P i × Q i)) → (n : ℕ) → ((i : ℕ) → P i → i < n) → Known ((i : ℕ) × P i × Q i)
any P Q known n small =
    let r = first_below (λ i. P i × Q i) known n in
    below_or r.0 n
    (λ h. let x = r.3 h in inl (r.0, x.0, x.1))
    (λ h. inr (λ x. r.2 x.0 (omega (arith, h, small x.0 x.1)) (x.1, x.2)))

module _ (m : ℕ) (need room : ℕ → Bool) (l : List ℕ) where
  no_box_known : (i : ℕ) → Known (NoBox m l i)
  no_box_known i = below_or (get_or l i 0) (3 ^ m) (λ h. inr (λ k. omega arith)) (λ h. inl h)

  joined_known : (a b : ℕ) → Known (Joined m a b)
  joined_known a b =
      any (λ c. contains m a c ≡ true) (λ c. contains m b c ≡ true) (λ c. both (contains m a c) (contains m b c)) (2 ^ m) (contains_combination m a)

  overlaps_known : (i : ℕ) → Known (Overlaps m l i)
  overlaps_known i = any (λ j. j < i) (λ j. Joined m (get_or l j 0) (get_or l i 0)) earlier i (λ j h. h)
    where
      earlier : (j : ℕ) → Known ((j < i) × Joined m (get_or l j 0) (get_or l i 0))
      earlier j = below_or j i
          (λ h. ⊎_elim (λ (x : Joined m (get_or l j 0) (get_or l i 0)). inl (h, x)) (λ (x : Joined m (get_or l j 0) (get_or l i 0) → ⊥). inr (λ y. x y.1)) (joined_known (get_or l j 0) (get_or l i 0)))
          (λ h. inr (λ y. omega (arith, h, y.0)))

  leaves_known : (i : ℕ) → Known (Leaves m room l i)
  leaves_known i =
      any (λ c. contains m (get_or l i 0) c ≡ true) (λ c. room c ≡ false) (λ c. differ (contains m (get_or l i 0) c) (room c)) (2 ^ m)
      (contains_combination m (get_or l i 0))

  pub judged_some : Small m need → (x : Finding) × Judged m need room l x
  judged_some small =
      let e = first_below (Uncovered m need l) (λ c. differ (need c) (covered m l c)) (2 ^ m) in
      ⊎_elim
      (λ (a : Nowhere l (NoBox m l)). let boxes = all_boxes m need room l a in
      ⊎_elim
      (λ (b : Nowhere l (Overlaps m l)). let apart = all_apart m need room l boxes b in
      ⊎_elim
      (λ (d : Nowhere l (Leaves m room l)). let inside = all_inside m need room l apart d in
      below_or e.0 (2 ^ m) (λ h. (Faulty fault.Uncovered e.0, uncovered_at m need room l inside e.0 (e.3 h) e.2))
      (λ h. (Fitting, all_covered m need room l inside (λ c x. e.2 c (omega (arith, h, small c x.0)) x))))
      (λ (d : (i : ℕ) × FirstAt l (Leaves m room l) i). (Faulty fault.Leaves d.0, leaves_at m need room l apart d.0 d.1))
      (first_in (Leaves m room l) leaves_known l))
      (λ (b : (i : ℕ) × FirstAt l (Overlaps m l) i). (Faulty fault.Overlap b.0, overlap_at m need room l boxes fault.Overlap b.0 refl b.1))
      (first_in (Overlaps m l) overlaps_known l))
      (λ (a : (i : ℕ) × FirstAt l (NoBox m l) i). (Faulty fault.NoBox a.0, no_box_at m need room l a.0 a.1))
      (first_in (NoBox m l) no_box_known l)

pub check_some : (most : ℕ) (s : Sheet) (l : List ℕ) → (x : Finding) × Checked most s l x
check_some most s l =
    class_ready_or most s
    (λ r. let x = judged_some s.marks _ _ l (class_small s) in (x.0, Checked.judged r x.1))
    (λ n. (Spoiled, Checked.spoiled n))
