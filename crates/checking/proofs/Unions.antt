-- A box by its set of combinations, against the union of those before it, and against the room.
use Prim.Native.Nat.{ℕ, ◌+◌, ◌-◌, ◌^◌, ◌<◌, ◌≤◌}
use mathlib.Core.Path.{◌≡◌, sym, ◌∙◌, ap, ap₂}
use mathlib.Core.Bool.{Bool, true, not, ◌||◌}
use mathlib.Core.List.{List}
use native.Mathlib.Omega.{arith}
use native.Mathlib.Numerals.{add-one}
use lib.Bits.{bit_and, bit_or}
use lib.Count.{count_trailing_zeros}
use lib.ListN.{length, get_or, take}
use lib.Seq.{get_or-take, length-take-le, take-suc, take_all}
use Rattle.ground.proofs.Cases.{if, clash, below_or}
use Rattle.boxes.specs.Boxes.{contains}
use Rattle.sets.specs.Sets.{has, value_at, Sets}
use Rattle.sets.proofs.Bits.{has-and, has-or, has-not, has-zero, has_high, zeros_below, lowest_shared, shared, not_shared}
use Rattle.lists.specs.Lists.{Boxes, covered}
use Rattle.lists.proofs.Count.{covered_last}
use Rattle.lists.proofs.Places.{boxes_at, covered_at, covered_by}
use Rattle.checking.specs.Faults.{Overlaps, Leaves, Uncovered}
use Rattle.checking.specs.Parts.{AllCovered}
use Rattle.checking.proofs.Firsts.{Passed}

-- u has the combinations of the box b
pub record SetOf (m b u : ℕ) : Type 0 where
  pub small : u < 2 ^ 32
  pub bits : (c : ℕ) → has u c ≡ contains m b c

pub set_at : (m : ℕ) (sets l : List ℕ) (i u : ℕ) → Sets m sets → Boxes m l → i < length l → u ≡ value_at sets (get_or l i 0) → SetOf m (get_or l i 0) u
set_at m sets l i u known boxes inside e =
    let set = known (get_or l i 0) (boxes_at m l i boxes inside) in
    record { small = omega (arith, set.0, e); bits = λ c. ap (λ (x : ℕ). has x c) e ∙ set.1 c }

-- u has what the boxes before i cover
abbrev pub Covers : ℕ → List ℕ → ℕ → ℕ → Type 0
Covers m l i u = (c : ℕ) → has u c ≡ covered m (take i l) c

pub covers_none : (m : ℕ) (l : List ℕ) → Covers m l 0 0
unfolding covered
covers_none m l c = has-zero c

-- a combination of a set of 32 bits is below 32
low : (s c : ℕ) → s < 2 ^ 32 → has s c ≡ true → c < 32
low s c h e = below_or c 32 (λ l. l) (λ l. clash e (has_high 32 c s h l))

-- where the box at i has the set s
module _ (m : ℕ) (l : List ℕ) (i s : ℕ) (inside : i < length l) (set : SetOf m (get_or l i 0) s) where
  module _ (u : ℕ) (so_far : Covers m l i u) where
    pub overlaps : (bit_and s u ≡ 0 → ⊥) → Overlaps m l i
    overlaps n =
        let x = shared s u set.small n in
        let r = covered_by m (take i l) x.0 (sym (so_far x.0) ∙ x.2) in
        let j : r.0 < i = omega (arith, r.1, length-take-le i l (omega arith)) in
        (r.0, j, (x.0, ap (λ (b : ℕ). contains m b x.0) (sym (get_or-take i l r.0 0 j)) ∙ r.2, sym (set.bits x.0) ∙ x.1))

    pub overlaps_not : bit_and s u ≡ 0 → Overlaps m l i → ⊥
    overlaps_not z o =
        let j = o.0 in
        let c = o.2.0 in
        not_shared s u c z (set.bits c ∙ o.2.2)
        (so_far c ∙ covered_at m (take i l) j c (omega (arith, o.1, length-take-le i l (omega arith))) (ap (λ (b : ℕ). contains m b c) (get_or-take i l j 0 o.1) ∙ o.2.1))

    pub covers_more : Covers m l (i + 1) (bit_or u s)
    covers_more c =
        has-or c u s ∙ ap₂ (λ (x y : Bool). x || y) (so_far c) (set.bits c)
        ∙ sym (ap (λ (k : List ℕ). covered m k c) (ap (λ (n : ℕ). take n l) (add-one i) ∙ take-suc l i 0 inside) ∙ covered_last m (take i l) (get_or l i 0) c)

  module _ (room : ℕ) (wide : room < 2 ^ 32) where
    outside : (c : ℕ) → has s c ≡ true → has (4294967295 - room) c ≡ not (has room c)
    outside c e = has-not c 32 room wide (low s c set.small e)

    pub leaves : (bit_and s (4294967295 - room) ≡ 0 → ⊥) → Leaves m (has room) l i
    leaves n =
        let x = shared s (4294967295 - room) set.small n in
        let c = x.0 in
        (c, sym (set.bits c) ∙ x.1, if (has room c) (λ y. clash x.2 (outside c x.1 ∙ ap not y)) (λ y. y))

    pub leaves_not : bit_and s (4294967295 - room) ≡ 0 → Leaves m (has room) l i → ⊥
    leaves_not z x = let c = x.0 in let e = set.bits c ∙ x.1 in not_shared s (4294967295 - room) c z e (outside c e ∙ ap not x.2)

-- where all boxes are passed, u has what the list covers
pub all_united : (m : ℕ) (l : List ℕ) (i u : ℕ) → length l ≤ i → u < 2 ^ 32 → Passed (Overlaps m l) i → Covers m l i u → AllCovered m l u
all_united m l i u whole wide passed covers = record {
  small = wide;
  apart = λ j h x. passed j (omega (arith, h, whole)) x;
  covers = λ c. covers c ∙ ap (λ (k : List ℕ). covered m k c) (take_all i l whole);
}

-- the needed combinations that a united list does not cover, as a set
module _ (m need : ℕ) (l : List ℕ) (small : need < 2 ^ 32) (u : ℕ) (union : AllCovered m l u) where
  uncovered_is : (c : ℕ) → has need c ≡ true → has (4294967295 - u) c ≡ not (covered m l c)
  uncovered_is c e = has-not c 32 u union.small (low need c small e) ∙ ap not (union.covers c)

  uncovered_has : (c : ℕ) → Uncovered m (has need) l c → has (bit_and need (4294967295 - u)) c ≡ true
  uncovered_has c x = has-and c need (4294967295 - u) ∙ rw (x.0, uncovered_is c x.0, x.1)

  pub missed_none : bit_and need (4294967295 - u) ≡ 0 → (c : ℕ) → Uncovered m (has need) l c → ⊥
  missed_none z c x = clash (uncovered_has c x) (ap (λ (s : ℕ). has s c) z ∙ has-zero c)

  pub missed_lowest : (bit_and need (4294967295 - u) ≡ 0 → ⊥)
      → Uncovered m (has need) l (count_trailing_zeros 32 (bit_and need (4294967295 - u))) × Passed (Uncovered m (has need) l) (count_trailing_zeros 32 (bit_and need (4294967295 - u)))
  missed_lowest n =
      let s = bit_and need (4294967295 - u) in
      let c = count_trailing_zeros 32 s in
      let y = lowest_shared need (4294967295 - u) small n in (
        (y.0, if (covered m l c) (λ k. clash y.1 (uncovered_is c y.0 ∙ ap not k)) (λ k. k)),
        λ d h x. clash (uncovered_has d x) (zeros_below 32 s d h),
      )
