-- What an entry changes of a record: the combination stands in its section with the number behind it, and nothing else does otherwise than before.
-- These are the facts that go by cases on the section; all other laws are over any section.
use Prim.Native.Nat.{ℕ, suc, ◌+◌, ◌^◌, ◌≤◌, ◌<◌}
use mathlib.Core.Path.{◌≡◌, refl, sym, ap, ◌∙◌}
use mathlib.Core.Bool.{true, false}
use mathlib.Core.List.{◌∷◌}
use native.Mathlib.Omega.{arith}
use lib.Dec.{leb, ltb}
use borrow.Author.Tests.{leb-true, ltb-false, lt-ltb, not-true}
use Rattle.boxes.proofs.Sums.{sum_change}
use Rattle.ground.proofs.Cases.{clash, same_or, and_left, and_right}
use Rattle.classes.specs.Standings.{is_in, is_either}
use Rattle.classes.specs.declared.Standing.TheVariants as standing
use Rattle.sheet.specs.Limits.{most_held}
use Rattle.sheet.specs.Record.{Record, updated, opened}
use Rattle.stored.specs.Sections.{Rest, nothing, profile, more, sections, bytes_behind, stands_in, number_behind, takes, held_in, may_stand, added}
use Rattle.stored.specs.Form.{bytes, entry_of}
use Rattle.stored.specs.declared.Layout.{Layout}
use Rattle.stored.specs.declared.Layout.TheVariants.{First, Today}
use Rattle.stored.specs.declared.Section.{Section}
use Rattle.stored.specs.declared.Section.TheVariants.{Class, Either, Held}
use Rattle.stored.proofs.UpTo.{updated_here, updated_other, updated_keeps}

-- the order in which sections are read
abbrev pub rank : Section → ℕ
rank Class = 0
rank Either = 1
rank Held = 2

-- sections in that order, the first at k or behind
abbrev pub Rising : ℕ → Rest → Type 0
Rising k nothing = Unit {0}
Rising k profile = Unit {0}
Rising k (more s rest) = (k ≤ rank s) × Rising (suc (rank s)) rest

pub rising : (layout : Layout) → Rising 0 (sections layout)
rising First = omega arith
rising Today = omega arith

-- u is none of the sections
abbrev pub Misses : Section → Rest → Type 0
Misses u nothing = Unit {0}
Misses u profile = Unit {0}
Misses u (more s rest) = (rank u ≡ rank s → ⊥) × Misses u rest

pub misses : {k : ℕ} (u : Section) (rest : Rest) → Rising k rest → rank u < k → Misses u rest
misses u nothing up l = tt
misses u profile up l = tt
misses u (more s rest) up l = (λ e. omega arith, misses u rest up.1 (omega arith))

pub opened_none : (m : ℕ) (u : Section) (c : ℕ) → stands_in u (opened m) c ≡ false
opened_none m Class c = refl
opened_none m Either c = refl
opened_none m Held c = refl

-- a section tells of a combination what its standing and its seconds tell
pub stands_same : (s : Section) (r q : Record) (c : ℕ) → r.standing c ≡ q.standing c → r.times c ≡ q.times c
    → (stands_in s r c ≡ stands_in s q c) × (number_behind s r c ≡ number_behind s q c)
stands_same Class r q c e t = (ap is_in e, refl)
stands_same Either r q c e t = (ap is_either e, refl)
stands_same Held r q c e t = (ap (ltb 0) t, t)

-- q differs from r in the section s alone
pub record OnlyIn (s : Section) (r q : Record) : Type 0 where
  pub marks : q.marks ≡ r.marks
  pub profile : q.profile ≡ r.profile
  pub same : (u : Section) → (rank u ≡ rank s → ⊥) → (c : ℕ) → (stands_in u q c ≡ stands_in u r c) × (number_behind u q c ≡ number_behind u r c)

pub only_same : (s : Section) (r : Record) → OnlyIn s r r
only_same s r = record { marks = refl; profile = refl; same = λ u n c. (refl, refl) }

pub only_then : {s : Section} {r q v : Record} → OnlyIn s r q → OnlyIn s q v → OnlyIn s r v
only_then x y = record { marks = y.marks ∙ x.marks; profile = y.profile ∙ x.profile; same = λ u n c. ((y.same u n c).0 ∙ (x.same u n c).0, (y.same u n c).1 ∙ (x.same u n c).1) }

added_marks : (s : Section) (r : Record) (c x : ℕ) → ((added s r c x).marks ≡ r.marks) × ((added s r c x).profile ≡ r.profile)
added_marks Class r c x = (refl, refl)
added_marks Either r c x = (refl, refl)
added_marks Held r c x = (refl, refl)

-- at the combination

pub stands_here : (s : Section) (r : Record) (c sum x : ℕ) → may_stand s sum x ≡ true → stands_in s (added s r c x) c ≡ true
stands_here Class r c sum x e = ap is_in (updated_here c standing.In r.standing)
stands_here Either r c sum x e = ap is_either (updated_here c standing.Either r.standing)
stands_here Held r c sum x e = ap (ltb 0) (updated_here c x r.times) ∙ lt-ltb 0 x (leb-true 1 x (and_left _ _ e))

pub entry_here : (s : Section) (r : Record) (c x : ℕ) → entry_of s (added s r c x) c ≡ c ∷ bytes (bytes_behind s) x
unfolding bytes
entry_here Class r c x = refl
entry_here Either r c x = refl
entry_here Held r c x = ap (λ (v : ℕ). c ∷ bytes 4 v) (updated_here c x r.times)

-- at every other

pub added_other : (s : Section) (r : Record) (c x y : ℕ) → (y ≡ c → ⊥) → ((added s r c x).standing y ≡ r.standing y) × ((added s r c x).times y ≡ r.times y)
added_other Class r c x y n = (updated_other c standing.In r.standing y n, refl)
added_other Either r c x y n = (updated_other c standing.Either r.standing y n, refl)
added_other Held r c x y n = (refl, updated_other c x r.times y n)

pub stands_other : (s : Section) (r : Record) (c x y : ℕ) → (y ≡ c → ⊥) → stands_in s (added s r c x) y ≡ stands_in s r y
stands_other s r c x y n = let o = added_other s r c x y n in (stands_same s (added s r c x) r y o.0 o.1).0

pub entry_other : (s : Section) (r : Record) (c x y : ℕ) → (y ≡ c → ⊥) → entry_of s (added s r c x) y ≡ entry_of s r y
entry_other s r c x y n =
    let o = added_other s r c x y n in
    ap (λ (v : ℕ). y ∷ bytes (bytes_behind s) v) (stands_same s (added s r c x) r y o.0 o.1).1

-- the sum of the seconds
pub held_more : (s : Section) (r : Record) (c x : ℕ) → c < 2 ^ r.marks → stands_in s r c ≡ false → x < 256 ^ bytes_behind s → held_in (added s r c x) ≡ held_in r + x
held_more Class r c x h none small = omega arith
held_more Either r c x h none small = omega arith
held_more Held r c x h none small =
    sum_change (2 ^ r.marks) r.times (updated c x r.times) c x h (λ y ly n. updated_other c x r.times y n)
    (omega (arith, updated_here c x r.times, ltb-false 0 (r.times c) none))

pub held_most : (s : Section) (sum x : ℕ) → may_stand s sum x ≡ true → x < 256 ^ bytes_behind s → sum ≤ most_held → sum + x ≤ most_held
held_most Class sum x e small h = omega arith
held_most Either sum x e small h = omega arith
held_most Held sum x e small h = leb-true (sum + x) most_held (and_right (leb 1 x) _ e)

-- A combination that its section takes, and that nothing of a later section was read of: the other sections stay, and so does that an either
-- combination holds nothing.

added-same : (s u : Section) (r : Record) (c x y : ℕ) → takes s r c ≡ true → ((v : Section) → rank s < rank v → stands_in v r c ≡ false) → (rank u ≡ rank s → ⊥)
    → (stands_in u (added s r c x) y ≡ stands_in u r y) × (number_behind u (added s r c x) y ≡ number_behind u r y)
added-same Class Class r c x y e none n = absurd (n refl)
added-same Class Either r c x y e none n = (updated_keeps is_either c standing.In r.standing (sym (none Either (omega arith))) y, refl)
added-same Class Held r c x y e none n = (refl, refl)
added-same Either Class r c x y e none n = (updated_keeps is_in c standing.Either r.standing (sym (not-true _ e)) y, refl)
added-same Either Either r c x y e none n = absurd (n refl)
added-same Either Held r c x y e none n = (refl, refl)
added-same Held Class r c x y e none n = (refl, refl)
added-same Held Either r c x y e none n = (refl, refl)
added-same Held Held r c x y e none n = absurd (n refl)

pub added-only : (s : Section) (r : Record) (c x : ℕ) → takes s r c ≡ true → ((v : Section) → rank s < rank v → stands_in v r c ≡ false) → OnlyIn s r (added s r c x)
added-only s r c x e none = let kept = added_marks s r c x in record { marks = kept.0; profile = kept.1; same = λ u n y. added-same s u r c x y e none n }

added_apart : (s : Section) (r : Record) (c x : ℕ) → takes s r c ≡ true → ((v : Section) → rank s < rank v → stands_in v r c ≡ false)
    → is_either ((added s r c x).standing c) ≡ true → (added s r c x).times c ≡ 0
added_apart Class r c x e none q = clash q (ap is_either (updated_here c standing.In r.standing))
added_apart Either r c x e none q = omega (arith, ltb-false 0 (r.times c) (none Held (omega arith)))
added_apart Held r c x e none q = clash q (not-true _ e)

pub still_apart : (s : Section) (r : Record) (c x : ℕ) → takes s r c ≡ true → ((v : Section) → rank s < rank v → stands_in v r c ≡ false)
    → ((y : ℕ) → is_either (r.standing y) ≡ true → r.times y ≡ 0) → (y : ℕ) → is_either ((added s r c x).standing y) ≡ true → (added s r c x).times y ≡ 0
still_apart s r c x e none apart y q =
    same_or y c
    (λ w. ap (added s r c x).times w ∙ added_apart s r c x e none (ap (λ (z : ℕ). is_either ((added s r c x).standing z)) (sym w) ∙ q))
    (λ n. let o = added_other s r c x y n in o.1 ∙ apart y (ap is_either (sym o.0) ∙ q))
