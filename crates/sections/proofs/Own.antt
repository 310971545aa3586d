-- The record that a reader's own numbers stand for: it is the one before the section while nothing is read, and an entry changes it as it changes them.
-- These facts go by cases on the section.
use Prim.Native.Nat.{ℕ, ◌+◌, ◌-◌, ◌^◌, ◌≤◌, ◌<◌}
use mathlib.Core.Path.{◌≡◌, refl, sym, ap, ◌∙◌, fun_ext}
use mathlib.Core.Bool.{Bool, true, false, not, cond, ◌&&◌, and-false}
use mathlib.Core.List.{List}
use native.Mathlib.Omega.{arith}
use lib.Dec.{ltb}
use lib.ListN.{length, set}
use lib.Seq.{get_or-set_same, get_or-set_other}
use borrow.Author.Tests.{le-leb, lt-leb, lt-ltb, le-ltb, ltb-false}
use Rattle.ground.proofs.Cases.{below_or}
use Rattle.boxes.specs.Sums.{only}
use Rattle.boxes.proofs.Sums.{only_zero}
use Rattle.tables.specs.Tables.{entry}
use Rattle.classes.specs.Standings.{is_in, is_either}
use Rattle.classes.specs.declared.Standing.{Standing}
use Rattle.classes.specs.declared.Standing.TheVariants as standing
use Rattle.sheet.specs.Limits.{most_held}
use Rattle.sheet.specs.Record.{Record, with_standing, with_times}
use Rattle.stored.specs.Sections.{bytes_behind, stands_in, takes, may_stand, added}
use Rattle.stored.specs.declared.Section.{Section}
use Rattle.stored.specs.declared.Section.TheVariants.{Class, Either, Held}
use Rattle.stored.proofs.UpTo.{updated-is}
use Rattle.sections.specs.Parts.{least, most_own, has_in, with_own}

pub own_marks : (s : Section) (f : ℕ → ℕ) (r : Record) → (with_own s f r).marks ≡ r.marks
own_marks Class f r = refl
own_marks Either f r = refl
own_marks Held f r = refl

-- of a combination that has nothing in the section the standing is as before
own_skip : (N : ℕ) (f : ℕ → ℕ) (v w : Standing) (c : ℕ) → (c < N → f c ≡ 0) → cond (ltb c N && ltb 0 (f c)) v w ≡ w
own_skip N f v w c h =
    below_or c N
    (λ l. ap (λ (x : ℕ). cond (ltb c N && ltb 0 x) v w) (h l) ∙ ap (λ (x : Bool). cond x v w) (and-false (ltb c N)))
    (λ l. ap (λ (x : Bool). cond (x && ltb 0 (f c)) v w) (le-ltb c N l))

-- nothing is read of the section yet
module _ (f : ℕ → ℕ) {r : Record} (clear : (c : ℕ) → c < 2 ^ r.marks → f c ≡ 0) where
  pub own_start : (s : Section) → ((c : ℕ) → stands_in s r c ≡ false) → with_own s f r ≡ r
  own_start Class none = ap (λ (g : ℕ → Standing). with_standing g r) (fun_ext (λ c. own_skip (2 ^ r.marks) f standing.In (r.standing c) c (clear c)))
  own_start Either none = ap (λ (g : ℕ → Standing). with_standing g r) (fun_ext (λ c. own_skip (2 ^ r.marks) f standing.Either (r.standing c) c (clear c)))
  own_start Held none =
      ap (λ (g : ℕ → ℕ). with_times g r)
      (fun_ext (λ c.
      let z : r.times c ≡ 0 = omega (arith, ltb-false 0 (r.times c) (none c)) in
      below_or c (2 ^ r.marks)
      (λ l. ap (only (ltb c (2 ^ r.marks))) (clear c l) ∙ only_zero (ltb c (2 ^ r.marks)) ∙ sym z)
      (λ l. ap (λ (x : Bool). only x (f c)) (le-ltb c (2 ^ r.marks) l) ∙ sym z)))

-- a number x stored for the combination c
module _ (own : List ℕ) (c x : ℕ) (h : c < length own) where
  pub set_here : entry (set own c x) c ≡ x
  set_here = get_or-set_same own c x 0 h

  pub set_other : (y : ℕ) → (y ≡ c → ⊥) → entry (set own c x) y ≡ entry own y
  set_other y n = get_or-set_other own c y x 0 n

-- the number x behind the combination c
module _ (own : List ℕ) (c x : ℕ) (h : c < length own) where
  pub own_added : (s : Section) (r : Record) → c < 2 ^ r.marks → added s (with_own s (entry own) r) c x ≡ with_own s (entry (set own c (has_in s x))) r
  own_added Class r l =
      ap (λ (g : ℕ → Standing). with_standing g r)
      (updated-is c standing.In _ (λ y. cond (ltb y (2 ^ r.marks) && ltb 0 (entry (set own c 1) y)) standing.In (r.standing y))
      (rw (lt-ltb c (2 ^ r.marks) l, set_here own c 1 h))
      (λ y n. ap (λ (v : ℕ). cond (ltb y (2 ^ r.marks) && ltb 0 v) standing.In (r.standing y)) (set_other own c 1 h y n)))
  own_added Either r l =
      ap (λ (g : ℕ → Standing). with_standing g r)
      (updated-is c standing.Either _ (λ y. cond (ltb y (2 ^ r.marks) && ltb 0 (entry (set own c 1) y)) standing.Either (r.standing y))
      (rw (lt-ltb c (2 ^ r.marks) l, set_here own c 1 h))
      (λ y n. ap (λ (v : ℕ). cond (ltb y (2 ^ r.marks) && ltb 0 v) standing.Either (r.standing y)) (set_other own c 1 h y n)))
  own_added Held r l =
      ap (λ (g : ℕ → ℕ). with_times g r)
      (updated-is c x _ (λ y. only (ltb y (2 ^ r.marks)) (entry (set own c x) y)) (rw (lt-ltb c (2 ^ r.marks) l) (set_here own c x h))
      (λ y n. ap (only (ltb y (2 ^ r.marks))) (set_other own c x h y n)))

-- a combination that has nothing in the section: it does not stand there, and is taken as before
module _ (f : ℕ → ℕ) (r : Record) (c : ℕ) (e : f c ≡ 0) where
  pub own_none : (s : Section) → stands_in s r c ≡ false → stands_in s (with_own s f r) c ≡ false
  own_none Class none = ap is_in (own_skip (2 ^ r.marks) f standing.In (r.standing c) c (λ l. e)) ∙ none
  own_none Either none = ap is_either (own_skip (2 ^ r.marks) f standing.Either (r.standing c) c (λ l. e)) ∙ none
  own_none Held none = ap (λ (x : ℕ). ltb 0 (only (ltb c (2 ^ r.marks)) x)) e ∙ ap (ltb 0) (only_zero (ltb c (2 ^ r.marks)))

  pub own_takes : (s : Section) → takes s (with_own s f r) c ≡ takes s r c
  own_takes Class = refl
  own_takes Either = ap (λ (v : Standing). not (is_in v)) (own_skip (2 ^ r.marks) f standing.Either (r.standing c) c (λ l. e))
  own_takes Held = refl

-- the number behind a combination may stand there exactly if it is `least` to what may still be added
module _ (s : Section) (sum x : ℕ) (h : sum ≤ most_held) (small : x < 256 ^ bytes_behind s) where
  pub may_stand-true : least s ≤ x → x ≤ most_held - sum → may_stand s sum x ≡ true
  may_stand-true l u = by s small l
    where
      by : (s : Section) → x < 256 ^ bytes_behind s → least s ≤ x → may_stand s sum x ≡ true
      by Class small l = refl
      by Either small l = refl
      by Held small l = rw (le-leb 1 x l, le-leb (sum + x) most_held (omega arith))

  pub may_not : (least s ≤ x → x ≤ most_held - sum → ⊥) → may_stand s sum x ≡ false
  may_not n = by s small n
    where
      by : (s : Section) → x < 256 ^ bytes_behind s → (least s ≤ x → x ≤ most_held - sum → ⊥) → may_stand s sum x ≡ false
      by Class small n = absurd (n (omega arith) (omega arith))
      by Either small n = absurd (n (omega arith) (omega arith))
      by Held small n =
          below_or 0 x
          (λ p. below_or most_held (sum + x) (λ q. rw (le-leb 1 x p, lt-leb (sum + x) most_held q)) (λ q. absurd (n p (omega arith))))
          (λ p. rw (lt-leb 1 x (omega arith)))

pub own_most : (s : Section) (x : ℕ) → x ≤ most_held → has_in s x ≤ most_own s
own_most Class x h = omega arith
own_most Either x h = omega arith
own_most Held x h = h
