-- A sheet is fit for a call that reads its class, or it is not; one that is fit for every call is fit for those.
use Prim.Native.Nat.{ℕ}
use Rattle.ground.proofs.Cases.{if, clash}
use Rattle.classes.proofs.Decided.{class_sound_or}
use Rattle.sheet.specs.Limits.{marks_ok}
use Rattle.sheet.specs.Sound.{ClassReady, Ready}
use Rattle.sheet.specs.declared.Sheet.{Sheet}

pub class_ready_or : {P : Type 0} (most : ℕ) (s : Sheet) → (ClassReady most s → P) → ((ClassReady most s → ⊥) → P) → P
class_ready_or most s fit unfit =
    if (marks_ok most s.marks)
    (λ k. class_sound_or s.marks s.outside s.either s.profile (λ c. fit record { marks = k; class = c }) (λ n. unfit (λ r. n r.class)))
    (λ k. unfit (λ r. clash r.marks k))

-- a sheet that is fit for every call is fit for those that read the class
pub class_of_ready : {most : ℕ} {s : Sheet} → Ready most s → ClassReady most s
class_of_ready r = record { marks = r.marks; class = r.class }
