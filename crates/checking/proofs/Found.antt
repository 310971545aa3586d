-- What is found of a list is what the check of a sheet with a sound class table answers, and what a check says that it found settles its result.
use mathlib.Core.Bool.{Bool, true, false, false≢true}
use mathlib.Core.List.{List}
use Prim.Native.Nat.{ℕ}
use mathlib.Core.Path.{◌≡◌, refl, sym, ◌∙◌, ap}
use Rattle.std.specs.Prelude.{Option, Some, None, Result, Ok, Err, IfErr}
use Rattle.std.specs.Result.{result_err}
use Rattle.refusals.specs.declared.Refusal.{Refusal}
use Rattle.refusals.specs.declared.Refusal.TheVariants as refusal
use Rattle.sheet.specs.Sound.{ClassReady, record_of}
use Rattle.sheet.specs.declared.Sheet.{Sheet}
use Rattle.checking.specs.declared.Fault.{Fault}
use Rattle.checking.specs.Finding.{Finding}
use Rattle.checking.specs.Finding.Finding.{Spoiled, Fitting, Faulty}
use Rattle.checking.specs.Answers.{JudgedFor, Checked, finding_of}
use Rattle.checking.specs.Parts.{found_of}

pub checked_found : {most : ℕ} {s : Sheet} {l : List ℕ} (r : Result (Unit {0}) (Fault × ℕ)) → ClassReady most s → JudgedFor (record_of s) l (found_of r)
    → Checked most s l (finding_of (Ok (result_err r)))
checked_found (Ok _) ready j = Checked.judged ready j
checked_found (Err _) ready j = Checked.judged ready j

is_spoiled : Finding → Bool
is_spoiled Spoiled = true
is_spoiled Fitting = false
is_spoiled (Faulty f i) = false

found : Finding → Option (Fault × ℕ)
found Spoiled = None
found Fitting = None
found (Faulty f i) = Some (f, i)

-- a check that says the same was found, and is refused for a spoiled sheet alone, has the same result
pub check_one : (r q : Result (Option (Fault × ℕ)) Refusal) → IfErr r (λ e. e ≡ refusal.Spoiled) → IfErr q (λ e. e ≡ refusal.Spoiled)
    → finding_of r ≡ finding_of q → r ≡ q
unfolding found is_spoiled
check_one (Err e) (Err f) p q h = ap Err (p ∙ sym q)
check_one (Ok None) (Ok None) p q h = refl
check_one (Ok (Some f)) (Ok (Some g)) p q h = ap (λ (x : Finding). Ok (found x)) h
check_one (Ok None) (Ok (Some g)) p q h = ap (λ (x : Finding). Ok (found x)) h
check_one (Ok (Some f)) (Ok None) p q h = ap (λ (x : Finding). Ok (found x)) h
check_one (Ok None) (Err e) p q h = absurd (false≢true (ap is_spoiled h))
check_one (Ok (Some f)) (Err e) p q h = absurd (false≢true (ap is_spoiled h))
check_one (Err e) (Ok None) p q h = absurd (false≢true (ap is_spoiled (sym h)))
check_one (Err e) (Ok (Some f)) p q h = absurd (false≢true (ap is_spoiled (sym h)))
