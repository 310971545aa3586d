-- A record that a sheet can have stays one, whatever the call.
use Prim.Native.Nat.{ℕ, ◌+◌, ◌-◌, ◌^◌, ◌<◌, ◌≤◌}
use mathlib.Core.Path.{◌≡◌, refl, sym, ◌∙◌, ap, subst}
use mathlib.Core.Bool.{Bool, true, false, cond, ◌&&◌}
use native.Mathlib.Omega.{arith}
use lib.Dec.{eqb, ltb}
use borrow.Author.Tests.{leb-true, ltb-true, ltb-false, not-true, eq-eqb, ne_eqb}
use Rattle.boxes.specs.Sums.{sum, only}
use Rattle.ground.proofs.Cases.{if, clash, same_or, and_right}
use Rattle.boxes.proofs.Sums.{sum_change, sum-le, sum-zero}
use Rattle.lists.specs.Lists.{Small}
use Rattle.profiles.specs.Profiles.{profile_ok, breaks, settles}
use Rattle.profiles.specs.declared.Profile.{Profile}
use Rattle.profiles.specs.declared.Profile.TheVariants.{None}
use Rattle.classes.specs.Standings.{is, is_out, is_either}
use Rattle.classes.specs.declared.Standing.{Standing}
use Rattle.sheet.specs.Limits.{most_marks, most_held, marks_ok, amount_ok}
use Rattle.sheet.specs.Record.{Record, in_class, updated, opened_under, opened}
use Rattle.sheet.proofs.Kept.{opened_obeys}
use Rattle.sheet.proofs.Told.{in-not-out}
use Rattle.changes.specs.declared.Call.{Call}
use Rattle.changes.specs.declared.Call.TheVariants.{Change, Receive, Withdraw}
use Rattle.histories.specs.Histories.{Good, number_of, accepted, after}
use Rattle.histories.proofs.Kept.{in-range, change_passed, receive_passed}

none_held : {x : ℕ} → x ≤ 0 → x ≡ 0
none_held l = omega arith

-- what stands at x, updated at c
by_place : (P : Standing → Type 0) (c : ℕ) (to : Standing) (standing : ℕ → Standing) (x : ℕ) → (x ≡ c → P to) → ((x ≡ c → ⊥) → P (standing x)) → P (updated c to standing x)
by_place P c to standing x here other = same_or x c (λ q. rw (eq-eqb x c q) (here q)) (λ n. rw (ne_eqb x c n) (other n))

pub good_accepted : (r : Record) → Good r → (k : Call) → number_of r k ≡ 0 → Good (accepted r k)
good_accepted r good (Change to c) z =
    let w = in-range r.marks c _ z in
    let p = change_passed (settles r.marks r.profile c) (is to (r.standing c)) (is_either to && ltb 0 (r.times c)) w.1 in
    record {
      marks = good.marks;
      profile = good.profile;
      obeys = λ x l b. by_place (λ (s : Standing). is_either s ≡ true) c to r.standing x
          (λ q. clash (rw (ap (breaks r.marks r.profile) (sym q) ∙ b, good.profile)) p.0) (λ q. good.obeys x l b);
      standing = λ x. by_place (λ (s : Standing). is_out s ≡ false → x < 2 ^ r.marks) c to r.standing x
          (λ q e. omega (arith, w.0)) (λ q e. good.standing x e);
      times = good.times;
      apart = λ x. by_place (λ (s : Standing). is_either s ≡ true → r.times x ≡ 0) c to r.standing x
          (λ q e. ap r.times q ∙ none_held (ltb-false 0 (r.times c) (sym (ap (λ (t : Bool). t && ltb 0 (r.times c)) e) ∙ p.2)))
          (λ q e. good.apart x e);
    }
good_accepted r good (Receive c d) z =
    let w = in-range r.marks c _ z in
    let p = receive_passed (amount_ok d) (is_either (r.standing c)) _ w.1 in
    let fit = leb-true (sum (2 ^ r.marks) r.times + d) most_held p.1 in
    let more = sum_change (2 ^ r.marks) r.times (λ x. r.times x + only (eqb x c) d) c d w.0 (λ x l n. rw (ne_eqb x c n) (omega arith)) (rw (eq-eqb c c refl)) in
    record {
      marks = good.marks;
      profile = good.profile;
      obeys = good.obeys;
      standing = good.standing;
      times = omega arith;
      apart = λ x e. same_or x c
          (λ q. clash (sym (ap (λ (y : ℕ). is_either (r.standing y)) q) ∙ e) p.0)
          (λ n. rw (ne_eqb x c n) (omega (arith, good.apart x e)));
    }
good_accepted r good (Withdraw c d) z = record {
  marks = good.marks;
  profile = good.profile;
  obeys = good.obeys;
  standing = good.standing;
  times = omega (arith, good.times, sum-le (2 ^ r.marks) (λ x. r.times x - only (eqb x c) d) r.times (λ x l. omega arith));
  apart = λ x e. omega (arith, good.apart x e);
}

pub good_after : (r : Record) → Good r → (k : Call) → Good (after r k)
good_after r good k =
    same_or (number_of r k) 0
    (λ z. subst (λ (t : Bool). Good (cond t (accepted r k) r)) (sym (eq-eqb (number_of r k) 0 z)) (good_accepted r good k z))
    (λ n. subst (λ (t : Bool). Good (cond t (accepted r k) r)) (sym (ne_eqb (number_of r k) 0 n)) good)

-- a history begins with an opened sheet's record, under a profile or without one

pub good_opened_under : (m : ℕ) (p : Profile) → marks_ok most_marks m ≡ true → profile_ok m p ≡ true → Good (opened_under m p)
good_opened_under m p e ok = record {
  marks = e;
  profile = ok;
  obeys = opened_obeys m p;
  standing = λ c w. if (breaks m p c && ltb c (2 ^ m)) (λ y. ltb-true c (2 ^ m) (and_right (breaks m p c) _ y)) (λ n. clash (rw n) w);
  times = omega (arith, sum-zero (2 ^ m));
  apart = λ c w. refl;
}

pub good_opened : (m : ℕ) → marks_ok most_marks m ≡ true → Good (opened m)
good_opened m e = good_opened_under m None e refl

-- no number that is no combination is in its class
pub good_small : {r : Record} → Good r → Small r.marks (in_class r)
good_small {r} good c e = good.standing c (not-true (is_out (r.standing c)) (in-not-out r c e))
