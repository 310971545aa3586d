-- Each sentence from the definition that says it. A history changes neither marks nor profile, so the record that it comes to obeys the profile that it
-- began with.
use Prim.Native.Nat.{ℕ, ◌^◌, ◌<◌}
use mathlib.Core.Path.{◌≡◌, refl, sym, ◌∙◌, ap, ap₂, subst}
use mathlib.Core.Bool.{Bool, true, false, cond, not}
use mathlib.Core.List.{List, [], ◌∷◌}
use lib.Dec.{eqb}
use Rattle.ground.proofs.Cases.{if, clash}
use Rattle.lists.proofs.Needed.{each_needed}
use Rattle.profiles.specs.Profiles.{profile_ok, breaks, settles}
use Rattle.profiles.specs.declared.Profile.{Profile}
use Rattle.classes.specs.Standings.{is_in, is_out, is_either}
use Rattle.classes.specs.declared.Standing.{Standing}
use Rattle.classes.specs.declared.Standing.TheVariants.{In, Out, Either}
use Rattle.sheet.specs.Limits.{most_marks, entries}
use Rattle.sheet.specs.Record.{Record, in_class, not_out, Obeys, opened_under}
use Rattle.sheet.specs.Sound.{Ready}
use Rattle.sheet.specs.Told.{Answer}
use Rattle.sheet.specs.declared.Sheet.{Sheet}
use Rattle.sheet.proofs.Answers.{open_under_refused, open_under_faulty, open_under_done}
use Rattle.sheet.proofs.Opening.{opened_low}
use Rattle.changes.specs.Calls.{change_no, amount_no}
use Rattle.changes.specs.declared.Call.{Call}
use Rattle.changes.specs.declared.Call.TheVariants.{Change, Receive, Withdraw}
use Rattle.changes.proofs.Tests.{change_2, change_settled}
use Rattle.stored.proofs.IsForm.{is-form}
use Rattle.stored.specs.declared.Layout.TheVariants.{First}
use Rattle.pla.proofs.Drawings.{drawn_profile}
use Rattle.histories.specs.Histories.{number_of, accepted, after, after_all, sheet_after}
use Rattle.histories.proofs.Afresh.{ready_afresh}
use Rattle.histories.proofs.Histories.{sheet_afresh, good_all}
use Rattle.vault.specs.Sequences.{Entry, changing, copying, called, entry_number, after_entry}
use Rattle.vault.proofs.Sequences.{good_entries}
use Rattle.demands.specs.Demand3.{Begins}
use Rattle.demands.specs.Carriers.{unprofiled, Carriers}
use Rattle.demands.proofs.Demand3.{begins_good, begins_in_good}

-- an either combination is neither in nor out

is_either-true : (v : Standing) → is_either v ≡ true → v ≡ Either
is_either-true In e = clash e refl
is_either-true Out e = clash e refl
is_either-true Either e = refl

-- opening

either_first : (m : ℕ) (p : Profile) (c : ℕ) → c < 2 ^ m → breaks m p c ≡ true → (opened_under m p).standing c ≡ Either
either_first m p c l b = opened_low m c p l ∙ rw b

-- class changes on whatever sheet

settled : (m c : ℕ) (p : Profile) → breaks m p c ≡ true → profile_ok m p ≡ true → settles m p c ≡ true
settled m c p b ok = rw (b, ok)

unasked : (m c : ℕ) (p : Profile) → profile_ok m p ≡ false → settles m p c ≡ false
unasked m c p bad = if (breaks m p c) (λ e. rw (e, bad)) (λ e. rw e)

faulty_unasked : (s : Sheet) (to : Standing) (c : ℕ) → profile_ok s.marks s.profile ≡ false → change_no most_marks to s c ≡ change_no most_marks to (unprofiled s) c
unfolding change_no
faulty_unasked s to c bad = rw (unasked s.marks c s.profile bad)

receipt_unasked : (s : Sheet) (more : Bool) (c d : ℕ) → amount_no most_marks more s c d ≡ amount_no most_marks more (unprofiled s) c d
unfolding amount_no
receipt_unasked s more c d = refl

-- histories: marks and profile stay

abbrev Stays : Record → Record → Type 0
Stays r q = (q.marks ≡ r.marks) × (q.profile ≡ r.profile)

accepted_stays : (r : Record) (k : Call) → Stays r (accepted r k)
accepted_stays r (Change to c) = (refl, refl)
accepted_stays r (Receive c d) = (refl, refl)
accepted_stays r (Withdraw c d) = (refl, refl)

cond_stays : (r q : Record) (b : Bool) → Stays r q → Stays r (cond b q r)
cond_stays r q true w = w
cond_stays r q false w = (refl, refl)

after_stays : (r : Record) (k : Call) → Stays r (after r k)
after_stays r k = cond_stays r (accepted r k) (eqb (number_of r k) 0) (accepted_stays r k)

entry_stays : (r : Record) (e : Entry) → Stays r (after_entry r e)
entry_stays r e = cond_stays r (called r e) (eqb (entry_number r e) 0) (called_stays e)
  where
    called_stays : (e : Entry) → Stays r (called r e)
    called_stays (changing k out) = after_stays r k
    called_stays (copying out) = (refl, refl)

all_stay : {K : Type 0} (next : Record → K → Record) → ((r : Record) (k : K) → Stays r (next r k)) → (r : Record) (ks : List K) → Stays r (after_all next r ks)
unfolding after_all
all_stay next stays r [] = (refl, refl)
all_stay next stays r (k ∷ ks) =
    let w = stays r k in
    let i = all_stay next stays (next r k) ks in
    (i.0 ∙ w.0, i.1 ∙ w.1)

-- what obeys its profile obeys the one that it began with
still_either : (r q : Record) → Stays r q → Obeys q → (c : ℕ) → c < 2 ^ r.marks → breaks r.marks r.profile c ≡ true → q.standing c ≡ Either
still_either r q w obeys c l b =
    is_either-true (q.standing c)
    (obeys c (subst (λ (m : ℕ). c < 2 ^ m) (sym w.0) l) (ap₂ (λ (m : ℕ) (p : Profile). breaks m p c) w.0 w.1 ∙ b))

sound : {s : Sheet} {r : Record} → Begins s r → (ks : List Call) → Ready most_marks (after_all sheet_after s ks)
sound {s} {r} x ks =
    let w = begins_good x in
    subst (Ready most_marks) (sym (ap (λ (u : Sheet). after_all sheet_after u ks) w.1 ∙ sheet_afresh r w.0 ks)) (ready_afresh (after_all after r ks) (good_all r w.0 ks))

room : (r : Record) → Obeys r → (c : ℕ) → c < 2 ^ r.marks → breaks r.marks r.profile c ≡ true → (in_class r c ≡ false) × (not_out r c ≡ true)
room r obeys c l b = let e = is_either-true (r.standing c) (obeys c l b) in (ap is_in e, ap (λ (v : Standing). not (is_out v)) e)

pub carriers : Carriers
carriers = record {
  opens = λ m groups e ok. sym (open_under_done most_marks entries m groups e ok);
  either_first = either_first;
  out_first = λ m p c e. rw e;
  one_first = λ m groups e. sym (ap (λ (a : Answer). a.number) (open_under_refused most_marks entries m groups e));
  thirteen = λ m groups e bad. sym (ap (λ (a : Answer). a.number) (open_under_faulty most_marks entries m groups e bad));
  unsound_faulty = λ s bad w. clash w.class.profile bad;
  unsound_standing = λ s c l b other w. clash (w.class.obeys c l b) other;
  sound = sound;
  two_first = λ s to c marks l. change_2 most_marks to s c marks l;
  twelve = λ s to c marks low b ok. change_settled most_marks to s c marks low (settled s.marks c s.profile b ok);
  faulty_unasked = faulty_unasked;
  receipt_unasked = λ s c d. receipt_unasked s true c d;
  withdrawal_unasked = λ s c d. receipt_unasked s false c d;
  stays = λ {s} {r} x ks. (all_stay after after_stays r ks).1;
  always = λ {s} {r} x ks. still_either r (after_all after r ks) (all_stay after after_stays r ks) (good_all r (begins_good x).0 ks).obeys;
  always_in = λ {t} {r} x es. still_either r (after_all after_entry r es) (all_stay after_entry entry_stays r es) (good_entries r (begins_in_good x).0 es).obeys;
  room = room;
  each_line = λ {r} x i h. each_needed r.marks x.right i h;
  old_none = λ {t} b y. (is-form First t b y).told.profile;
  drawn_none = drawn_profile;
}
