-- An opened sheet is fit for every call, and so is the one that a refused opening gives.
use Prim.Native.Nat.{ℕ, ◌^◌}
use mathlib.Core.Path.{◌≡◌, refl, subst}
use mathlib.Core.Bool.{true}
use native.Mathlib.Omega.{arith}
use mathlib.Core.List.{List}
use lib.ListN.{length}
use Rattle.ground.proofs.Cases.{if, and_right}
use Rattle.boxes.proofs.Sums.{sum-zero}
use Rattle.profiles.specs.Profiles.{profile_ok, count_ok, profile_of, names_ok}
use Rattle.profiles.specs.declared.Profile.{Profile}
use Rattle.profiles.specs.declared.Profile.TheVariants.{None}
use Rattle.sheet.specs.Told.{Answer}
use Rattle.sheet.specs.Limits.{marks_ok, most_marks, entries}
use Rattle.sheet.specs.Record.{sheet_of, opened_under}
use Rattle.sheet.specs.Sound.{Ready}
use Rattle.sheet.specs.Answers.{open_of, open_under_of}
use Rattle.sheet.proofs.Answers.{open_done, open_refused, open_under_done, open_under_faulty, open_under_refused}
use Rattle.sheet.proofs.Kept.{class_sound, times_sound, opened_obeys}
use Rattle.sheet.proofs.Limits.{boxes_fit}

opened_ready : (m : ℕ) (p : Profile) → marks_ok most_marks m ≡ true → profile_ok m p ≡ true → Ready most_marks (sheet_of entries (opened_under m p))
opened_ready m p e ok =
    let l = boxes_fit m e in
    let r = opened_under m p in
    record {
      marks = e;
      class = class_sound entries r l ok (opened_obeys m p);
      times = times_sound entries m l r.standing (λ c. 0) (omega (arith, sum-zero (2 ^ m))) (λ c w. refl);
    }

pub open_ready : (m : ℕ) → Ready most_marks (open_of most_marks entries m).sheet
unfolding marks_ok
open_ready m =
    if (marks_ok most_marks m)
    (λ e. subst (λ (a : Answer). Ready most_marks a.sheet) (open_done most_marks entries m e) (opened_ready m None e refl))
    (λ e. subst (λ (a : Answer). Ready most_marks a.sheet) (open_refused most_marks entries m e) (opened_ready 1 None refl refl))

pub open_under_ready : (m : ℕ) (groups : List ℕ) → Ready most_marks (open_under_of most_marks entries m groups).sheet
unfolding marks_ok
open_under_ready m groups =
    if (marks_ok most_marks m)
    (λ e. if (names_ok m groups)
    (λ ok. subst (λ (a : Answer). Ready most_marks a.sheet) (open_under_done most_marks entries m groups e ok)
    (opened_ready m (profile_of groups) e (and_right (count_ok (length groups)) _ ok)))
    (λ no. subst (λ (a : Answer). Ready most_marks a.sheet) (open_under_faulty most_marks entries m groups e no) (opened_ready 1 None refl refl)))
    (λ e. subst (λ (a : Answer). Ready most_marks a.sheet) (open_under_refused most_marks entries m groups e) (opened_ready 1 None refl refl))
