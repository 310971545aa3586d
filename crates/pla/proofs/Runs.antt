-- Each text has exactly one outcome: a line says one thing at most, and its judgement is one.
use Prim.Native.Nat.{ℕ, ◌+◌}
use mathlib.Core.Path.{◌≡◌, refl, subst}
use mathlib.Core.Bool.{Bool, true, false, not, cond, ◌&&◌}
use mathlib.Core.List.{List, [], ◌∷◌}
use mathlib.Core.Logic.{◌⊎◌, inl, inr}
use native.Mathlib.Omega.{arith}
use lib.Dec.{eqb, ltb}
use lib.ListN.{length}
use Rattle.sheet.specs.Limits.{marks_ok}
use Rattle.stored.specs.Fields.{Outcome, good, refused}
use Rattle.sheet.specs.Record.{Record}
use Rattle.pla.specs.Texts.{words_of, lines_of}
use Rattle.pla.specs.Sayings.{Saying, blank, inputs, output, count, cube, end, Says}
use Rattle.pla.specs.Reading.{Count, uncounted, counted, is_counted, Said, nothing_said, drawn_by, agreed, comes_to, Next, on, stop, judge, Run, over, unreadable, stopped, taken, PlaSays}
use Rattle.pla.proofs.Sayings.{says_one, says_or}

-- what a line leads to is one

same_stop : {n : Next} {o u : Outcome} → n ≡ stop o → n ≡ stop u → o ≡ u
same_stop p q = cc

same_on : {n : Next} {s u : Said} → n ≡ on s → n ≡ on u → s ≡ u
same_on p q = cc

not_both : {n : Next} {o : Outcome} {u : Said} → n ≡ stop o → n ≡ on u → ⊥
not_both {n} {o} {u} p q = let z : ◌≡◌ {A = ℕ} 0 1 = cc in omega arith

judged_as : (most size : ℕ) (s : Said) (at : ℕ) {ws : List (List ℕ)} {x y : Saying} {n : Next} → Says s.inputs ws x → Says s.inputs ws y
    → judge most size s at x ≡ n → judge most size s at y ≡ n
judged_as most size s at {n = n} p q e = subst (λ (z : Saying). judge most size s at z ≡ n) (says_one p q) e

module _ {most size : ℕ} where
  pub one : {s : Said} {at : ℕ} {ls : List (List ℕ)} {o u : Outcome} → Run most size s at ls o → Run most size s at ls u → o ≡ u
  one over over = refl
  one (unreadable n) (unreadable k) = refl
  one (unreadable n) (stopped y k) = absurd (n _ y)
  one (unreadable n) (taken y k q) = absurd (n _ y)
  one (stopped x j) (unreadable n) = absurd (n _ x)
  one {s} {at} (stopped x j) (stopped y k) = same_stop (judged_as most size s at x y j) k
  one {s} {at} (stopped x j) (taken y k q) = absurd (not_both (judged_as most size s at x y j) k)
  one (taken x j r) (unreadable n) = absurd (n _ x)
  one {s} {at} (taken x j r) (stopped y k) = absurd (not_both k (judged_as most size s at x y j))
  one {s} {at} {o = o} (taken {line = line} {rest = rest} x j r) (taken y k q) =
      one (subst (λ (z : Said). Run most size z (at + length line + 1) rest o) (same_on (judged_as most size s at x y j) k) r) q

  -- one line, and then the lines behind it
  line_some : (s : Said) (at : ℕ) (line : List ℕ) (rest : List (List ℕ)) → ((u : Said) → (o : Outcome) × Run most size u (at + length line + 1) rest o)
      → (o : Outcome) × Run most size s at (line ∷ rest) o
  line_some s at line rest behind =
      says_or s.inputs (words_of line) (λ x y. by x y (judge most size s at x) refl) (λ n. (refused 10 at, unreadable n))
    where
      by : (x : Saying) → Says s.inputs (words_of line) x → (n : Next) → judge most size s at x ≡ n
          → (o : Outcome) × Run most size s at (line ∷ rest) o
      by x y (stop o) e = (o, stopped y e)
      by x y (on u) e = ((behind u).0, taken y e (behind u).1)

  some : (s : Said) (at : ℕ) (ls : List (List ℕ)) → (o : Outcome) × Run most size s at ls o
  some s at [] = (comes_to size s, over)
  some s at (line ∷ rest) = line_some s at line rest (λ u. some u (at + length line + 1) rest)

pub says_one_outcome : {most : ℕ} {t : List ℕ} {o u : Outcome} → PlaSays most t o → PlaSays most t u → o ≡ u
says_one_outcome p q = one p.run q.run

pub says_some_outcome : (most : ℕ) (t : List ℕ) → (o : Outcome) × PlaSays most t o
says_some_outcome most t = let r = some nothing_said 0 (lines_of t) in (r.0, record { run = r.1 })

-- the numbers of a refusal: 1 without a place, or 10
abbrev Fair : Outcome → Type 0
Fair (good r) = Unit {0}
Fair (refused k p) = ((k ≡ 1) × (p ≡ 0)) ⊎ (k ≡ 10)

abbrev FairNext : Next → Type 0
FairNext (on s) = Unit {0}
FairNext (stop o) = Fair o

fair_cond : (t : Bool) (x y : Next) → FairNext x → FairNext y → FairNext (cond t x y)
fair_cond true x y p q = p
fair_cond false x y p q = q

fair_end : (t : Bool) (o u : Outcome) → Fair o → Fair u → Fair (cond t o u)
fair_end true o u p q = p
fair_end false o u p q = q

fair_agreed : (r : Record) (k : ℕ) (c : Count) → Fair (agreed r k c)
fair_agreed r k uncounted = tt
fair_agreed r k (counted n at) = fair_end (eqb n k) (good r) (refused 10 at) tt (inr refl)

fair_comes : (size : ℕ) (s : Said) → Fair (comes_to size s)
fair_comes size s =
    fair_end (ltb 0 s.inputs && s.output) (agreed (drawn_by s) (length s.cubes) s.count) (refused 10 size)
    (fair_agreed (drawn_by s) (length s.cubes) s.count) (inr refl)

fair_judge : (most size : ℕ) (s : Said) (at : ℕ) (x : Saying) → FairNext (judge most size s at x)
fair_judge most size s at blank = tt
fair_judge most size s at (inputs n) =
    fair_cond (eqb s.inputs 0) (cond (marks_ok most n) (on _) (stop (refused 1 0))) (stop (refused 10 at))
    (fair_cond (marks_ok most n) (on _) (stop (refused 1 0)) tt (inl (refl, refl))) (inr refl)
fair_judge most size s at output = fair_cond (ltb 0 s.inputs && not s.output) (on _) (stop (refused 10 at)) tt (inr refl)
fair_judge most size s at (count n) = fair_cond (is_counted s.count) (stop (refused 10 at)) (on _) (inr refl) tt
fair_judge most size s at (cube b) = fair_cond s.output (on _) (stop (refused 10 at)) tt (inr refl)
fair_judge most size s at end = fair_comes size s

fair : {most size : ℕ} {s : Said} {at : ℕ} {ls : List (List ℕ)} {o : Outcome} → Run most size s at ls o → Fair o
fair {size = size} {s = s} over = fair_comes size s
fair (unreadable n) = inr refl
fair {most} {size} {s} {at} (stopped {x = x} y e) = subst FairNext e (fair_judge most size s at x)
fair (taken y e r) = fair r

pub refusals : {most k p : ℕ} {t : List ℕ} → PlaSays most t (refused k p) → ((k ≡ 1) × (p ≡ 0)) ⊎ (k ≡ 10)
refusals r = fair r.run
