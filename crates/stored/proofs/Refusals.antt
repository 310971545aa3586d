-- Which numbers reading gives: 1 for the marks, and then the place is 0; 10 for everything behind them.
use Prim.Native.Nat.{ℕ, zero, suc, ◌+◌, ◌^◌}
use mathlib.Core.Path.{◌≡◌, refl, sym, ap, ◌∙◌}
use mathlib.Core.Bool.{Bool, true, false, cond, ◌&&◌}
use mathlib.Core.List.{List}
use mathlib.Core.Logic.{◌⊎◌, inl, inr, ⊎_elim}
use native.Mathlib.Omega.{arith}
use lib.Dec.{leb, ltb}
use Rattle.sheet.specs.Limits.{marks_ok}
use Rattle.profiles.specs.Profiles.{may_follow, followed, count_ok}
use Rattle.sheet.specs.Record.{Record, with_profile}
use Rattle.stored.specs.Sections.{Rest, nothing, profile, more, takes, held_in, may_stand, added}
use Rattle.stored.specs.Fields.{Due, marks, count, combination, behind, groups, group, Next, due, perhaps, complete, end, wrong, rest_due, entries_due, groups_due, judge, refused, Run, over, with, broken, obeyed, early, faulty, field}
use Rattle.stored.specs.declared.Section.{Section}
use Rattle.stored.proofs.Runs.{passed}

-- the number that a fault there is answered with
abbrev code : Next → ℕ
code (due (marks rest)) = 1
code (due (count s rest r)) = 10
code (due (combination s rest r left low)) = 10
code (due (behind s rest r left c)) = 10
code (due (groups r start)) = 10
code (due (group r start left)) = 10
code (perhaps r) = 10
code (complete r start) = 10
code (end r) = 10
code (wrong n) = n

code_rest : (rest : Rest) (r : Record) → code (rest_due rest r) ≡ 10
code_rest nothing r = refl
code_rest profile r = refl
code_rest (more s rest) r = refl

code_entries : (s : Section) (rest : Rest) (r : Record) (n low : ℕ) → code (entries_due s rest r n low) ≡ 10
code_entries s rest r zero low = code_rest rest r
code_entries s rest r (suc n) low = refl

code_groups : (r : Record) (start n : ℕ) → code (groups_due r start n) ≡ 10
code_groups r start zero = refl
code_groups r start (suc n) = refl

code_cond : (b : Bool) (s : Next) → code s ≡ 10 → code (cond b s (wrong 10)) ≡ 10
code_cond true s e = e
code_cond false s e = refl

code_judge : (most : ℕ) (d : Due) (n : ℕ) → code (due d) ≡ 10 → code (judge most d n) ≡ 10
unfolding judge
code_judge most (marks rest) n e = absurd (omega arith)
code_judge most (count s rest r) n e = code_cond (leb n (2 ^ r.marks)) (entries_due s rest r n 0) (code_entries s rest r n 0)
code_judge most (combination s rest r left low) c e = code_cond (leb low c && (ltb c (2 ^ r.marks) && takes s r c)) (due (behind s rest r left c)) refl
code_judge most (behind s rest r left c) x e =
    code_cond (may_stand s (held_in r) x) (entries_due s rest (added s r c x) left (c + 1)) (code_entries s rest (added s r c x) left (c + 1))
code_judge most (groups r start) n e = code_cond (count_ok n) (groups_due r start n) (code_groups r start n)
code_judge most (group r start left) g e =
    let q = with_profile (followed r.profile g) r in
    code_cond (may_follow r.marks r.profile g) (groups_due q start left) (code_groups q start left)

pub ten : {most at k p : ℕ} {s : Next} {l : List ℕ} → Run most s at l (refused k p) → code s ≡ 10 → k ≡ 10
ten over e = refl
ten (with x) e = ten x refl
ten (broken n) e = refl
ten (obeyed o x) e = ten x refl
ten (early h) e = refl
ten {most} (faulty {d} h q) e = ap code (sym q) ∙ code_judge most d _ e
ten {most} (field {d} h x) e = ten x (code_judge most d _ e)

marks_wrong : (b : Bool) (s : Next) {k : ℕ} → code s ≡ 10 → cond b s (wrong 1) ≡ wrong k → ((k ≡ 1) × (◌≡◌ {A = ℕ} 0 0)) ⊎ (k ≡ 10)
marks_wrong true s e q = inr (ap code (sym q) ∙ e)
marks_wrong false s e q = inl (ap code (sym q), refl)

-- the two numbers, and the place of 1, whichever sections are due
pub refusals : {rest : Rest} {most k : ℕ} {t : List ℕ} {p : ℕ} → Run most (due (marks rest)) 0 t (refused k p) → ((k ≡ 1) × (p ≡ 0)) ⊎ (k ≡ 10)
unfolding judge
refusals (early h) = inr refl
refusals {rest} {most} (faulty h q) = marks_wrong (marks_ok most _) _ (code_rest rest _) q
refusals {rest} {most} (field h x) = inr (ten (passed (marks_ok most _) _ 1 x).1 (code_rest rest _))

pub never_done : {rest : Rest} {most k p : ℕ} {t : List ℕ} → Run most (due (marks rest)) 0 t (refused k p) → k ≡ 0 → ⊥
never_done x e = ⊎_elim (λ (w : (_ ≡ 1) × (_ ≡ 0)). omega (arith, w.0)) (λ (w : _ ≡ 10). omega (arith, w)) (refusals x)
