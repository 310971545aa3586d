-- The sheet that is read from a PLA text is sound, and so is the one that is given with a refusal.
use Prim.Native.Nat.{ℕ, ◌^◌, ◌≤◌}
use mathlib.Core.List.{List}
use native.Mathlib.Omega.{arith}
use Rattle.boxes.proofs.Sums.{sum-zero, sum_ext}
use Rattle.sheet.specs.Record.{Record}
use Rattle.sheet.specs.Sound.{Ready}
use Rattle.stored.specs.Fields.{good}
use Rattle.stored.specs.Told.{Read}
use Rattle.stored.proofs.Groups.{none_ok, none_obeys}
use Rattle.stored.proofs.IsForm.{Storable}
use Rattle.stored.proofs.Trips.{read_by_sound}
use Rattle.pla.specs.Reading.{PlaSays}
use Rattle.pla.specs.Answers.{ReadsPla}
use Rattle.pla.proofs.Drawings.{drawn_marks, drawn_profile, drawn_times}

pub drawn_storable : {most : ℕ} {t : List ℕ} {r : Record} → PlaSays most t (good r) → Storable most r
drawn_storable {r = r} p =
    record {
      marks = drawn_marks p;
      profile = none_ok r.marks r.profile (drawn_profile p);
      obeys = none_obeys r (drawn_profile p);
      held_le_most = omega (arith, sum_ext (2 ^ r.marks) r.times (λ c. 0) (λ c l. drawn_times p c), sum-zero (2 ^ r.marks));
      apart = λ c e. drawn_times p c;
    }

pub reads_pla_sound : (most n : ℕ) → 3 ^ most ≤ n → 1 ≤ most → {t : List ℕ} {a : Read} → ReadsPla most n t a → Ready most a.sheet
reads_pla_sound most n long h x = read_by_sound most n long h (λ r. drawn_storable) x
