-- The profile behind the sections: the bytes of a profile are read as it, and what is read there is the bytes of the profile that it makes.
use Prim.Native.Nat.{ℕ, ◌+◌}
use mathlib.Core.Path.{◌≡◌, refl, ap, ◌∙◌, subst}
use mathlib.Core.Bool.{true}
use mathlib.Core.List.{List, [], ◌∷◌, ◌++◌}
use mathlib.Core.Logic.{◌⊎◌, inl, inr, ⊎_elim}
use native.Mathlib.Omega.{arith}
use lib.ListN.{take, drop}
use Rattle.ground.proofs.Cases.{clash, and_left, and_right}
use Rattle.profiles.specs.Profiles.{may_follow, followed, profile_ok, breaks, count_ok}
use Rattle.profiles.specs.declared.Profile.{Profile}
use Rattle.profiles.specs.declared.Profile.TheVariants.{None, One, Two}
use Rattle.profiles.proofs.Named.{count_or}
use Rattle.sheet.specs.Record.{Record, with_profile, Obeys}
use Rattle.stored.specs.Fields.{Bytes, number_in, groups, group, due, perhaps, groups_due, judge, Outcome, good, Run, without, with, obeyed, done}
use Rattle.stored.specs.Form.{bytes, profile_bytes}
use Rattle.stored.proofs.Runs.{took, passed, completed, goes}
use Rattle.stored.proofs.Numbers.{bytes_split, byte_split, number_one, number_front}

-- without a profile nothing is asked

pub none_ok : (m : ℕ) (p : Profile) → p ≡ None → profile_ok m p ≡ true
none_ok m p e = rw e

pub none_obeys : (r : Record) → r.profile ≡ None → Obeys r
none_obeys r e c l b = clash b (ap (λ (p : Profile). breaks r.marks p c) e)

-- the bytes of a profile

group_back : {most : ℕ} {o : Outcome} (r : Record) (start left g at : ℕ) (l : List ℕ) → may_follow r.marks r.profile g ≡ true
    → Run most (groups_due (with_profile (followed r.profile g) r) start left) (at + 1) l o → Run most (due (group r start left)) at (g ∷ l) o
unfolding judge
group_back r start left g at l may x =
    goes (group r start left) (g ∷ l) (groups_due (with_profile (followed r.profile g) r) start left) (omega arith) (rw (number_one g l, may)) x

pub profile_back : {most : ℕ} (p : Profile) (r : Record) (at : ℕ) → profile_ok r.marks p ≡ true → Obeys (with_profile p r)
    → Run most (perhaps (with_profile None r)) at (profile_bytes p) (good (with_profile p r))
unfolding judge bytes count_ok
profile_back None r at ok obeys = without
profile_back (One g) r at ok obeys =
    with (goes (groups (with_profile None r) at) (bytes 2 1 ++ (g ∷ [])) (groups_due (with_profile None r) at 1) (omega arith) (rw (number_front 2 1 (g ∷ []) (omega arith)))
    (group_back (with_profile None r) at 0 g (at + 2) [] ok (obeyed obeys done)))
profile_back (Two g h) r at ok obeys =
    with (goes (groups (with_profile None r) at) (bytes 2 2 ++ (g ∷ h ∷ [])) (groups_due (with_profile None r) at 2) (omega arith) (rw (number_front 2 2 (g ∷ h ∷ []) (omega arith)))
    (group_back (with_profile None r) at 1 g (at + 2) (h ∷ []) (and_left _ _ ok)
    (group_back (with_profile (One g) r) at 0 h (at + 2 + 1) [] (and_right (may_follow r.marks None g) _ ok) (obeyed obeys done))))

-- a group that a good run took
record GroupTook (most : ℕ) (r q : Record) (start left at : ℕ) (l : List ℕ) : Type 0 where
  group : ℕ
  may : may_follow r.marks r.profile group ≡ true
  split : l ≡ group ∷ drop 1 l
  run : Run most (groups_due (with_profile (followed r.profile group) r) start left) (at + 1) (drop 1 l) (good q)

group_took : {most at : ℕ} {q : Record} (r : Record) (start left : ℕ) (l : List ℕ) → Run most (due (group r start left)) at l (good q)
    → GroupTook most r q start left at l
unfolding judge
group_took r start left l x =
    let w = took x in
    let g = number_in (take 1 l) in
    let p = passed (may_follow r.marks r.profile g) (groups_due (with_profile (followed r.profile g) r) start left) 10 w.1 in
    record { group = g; may = p.0; split = byte_split l w.0; run = p.1 }

-- what a good run read behind the sections of r: q is r with the profile that stands there
pub record ProfileGot (r q : Record) (l : List ℕ) : Type 0 where
  pub is : q ≡ with_profile q.profile r
  pub ok : profile_ok r.marks q.profile ≡ true
  pub obeys : Obeys (with_profile q.profile r)
  pub bytes : l ≡ profile_bytes q.profile

groups_got : {most at : ℕ} {q : Record} (r : Record) (l : List ℕ) → Bytes l → Run most (due (groups (with_profile None r) at)) at l (good q) → ProfileGot r q l
unfolding judge
groups_got {most} {at} {q} r l b x =
    let w = took x in
    let n = number_in (take 2 l) in
    let l₁ = drop 2 l in
    let p = passed (count_ok n) (groups_due (with_profile None r) at n) 10 w.1 in
    let due_now : (k : ℕ) → n ≡ k → Run most (groups_due (with_profile None r) at k) (at + 2) l₁ (good q) =
    λ k e. subst (λ (k : ℕ). Run most (groups_due (with_profile None r) at k) (at + 2) l₁ (good q)) e p.1 in
    let split : (k : ℕ) → n ≡ k → l ≡ bytes 2 k ++ l₁ = λ k e. bytes_split 2 l w.0 b ∙ ap (λ (k : ℕ). bytes 2 k ++ l₁) e in
    count_or n p.0
    (λ e.
    let g = group_took (with_profile None r) at 0 l₁ (due_now 1 e) in
    let z = completed g.run in
    subst (λ (u : Record). ProfileGot r u l) z.1.1
    record {
      is = refl;
      ok = g.may;
      obeys = z.0;
      bytes = split 1 e ∙ ap (λ (t : List ℕ). bytes 2 1 ++ t) (g.split ∙ ap (λ (t : List ℕ). g.group ∷ t) z.1.0);
    })
    (λ e.
    let g = group_took (with_profile None r) at 1 l₁ (due_now 2 e) in
    let h = group_took (with_profile (One g.group) r) at 0 (drop 1 l₁) g.run in
    let z = completed h.run in
    subst (λ (u : Record). ProfileGot r u l) z.1.1
    record {
      is = refl;
      ok = rw (g.may, h.may);
      obeys = z.0;
      bytes =
          split 2 e
          ∙ ap (λ (t : List ℕ). bytes 2 2 ++ t)
          (g.split ∙ ap (λ (t : List ℕ). g.group ∷ t) (h.split ∙ ap (λ (t : List ℕ). h.group ∷ t) z.1.0));
    })

perhaps_got : {most at : ℕ} {r q : Record} (l : List ℕ) → Run most (perhaps r) at l (good q) → ((l ≡ []) × (r ≡ q)) ⊎ Run most (due (groups r at)) at l (good q)
perhaps_got [] without = inl (refl, refl)
perhaps_got (b ∷ l) (with x) = inr x

pub profile_got : {most at : ℕ} {q : Record} (r : Record) (l : List ℕ) → Bytes l → Run most (perhaps (with_profile None r)) at l (good q) → ProfileGot r q l
profile_got {q = q} r l b x =
    ⊎_elim
    (λ w. subst (λ (u : Record). ProfileGot r u l) w.1 record { is = refl; ok = refl; obeys = none_obeys (with_profile None r) refl; bytes = w.0 })
    (λ y. groups_got r l b y)
    (perhaps_got l x)
