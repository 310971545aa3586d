-- No two findings meet the contract of the check: of two faults that are each the first, none is before the other.
use Prim.Native.Nat.{ℕ}
use mathlib.Core.Path.{◌≡◌, refl, sym, ap₂, subst}
use mathlib.Core.Bool.{Bool}
use mathlib.Core.List.{List}
use native.Mathlib.Omega.{arith}
use Rattle.ground.proofs.Cases.{below_or}
use Rattle.sheet.specs.declared.Sheet.{Sheet}
use Rattle.checking.specs.declared.Fault.{Fault}
use Rattle.checking.specs.Finding.{Finding}
use Rattle.checking.specs.Finding.Finding.{Faulty}
use Rattle.checking.specs.Faults.{Has, fault_number, FirstFault, Judged}
use Rattle.checking.specs.Faults.Judged.{fits, faulty}
use Rattle.checking.specs.Answers.{Checked}
use Rattle.checking.specs.Answers.Checked.{spoiled, judged}
use Rattle.checking.proofs.Faults.{number_same, fits_faultless}

module _ {m : ℕ} {need room : ℕ → Bool} {l : List ℕ} where
  one_fault : {f g : Fault} {i j : ℕ} → FirstFault m need room l f i → FirstFault m need room l g j → Faulty f i ≡ Faulty g j
  one_fault {f} {g} {i} {j} p q =
      below_or (fault_number f) (fault_number g) (λ h. absurd (q.first_kind f h i p.here))
      (λ h. below_or (fault_number g) (fault_number f) (λ k. absurd (p.first_kind g k j q.here))
      (λ k.
      let e : f ≡ g = number_same f g (omega arith) in
      below_or i j (λ b. absurd (q.first_place i b (subst (λ (x : Fault). Has m need room l x i) e p.here)))
      (λ b. below_or j i (λ a. absurd (p.first_place j a (subst (λ (x : Fault). Has m need room l x j) (sym e) q.here)))
      (λ a. ap₂ Faulty e (omega arith)))))

  pub judged_settled : {x y : Finding} → Judged m need room l x → Judged m need room l y → x ≡ y
  judged_settled (fits t) (fits u) = refl
  judged_settled (fits t) (faulty {f} {i} p) = absurd (fits_faultless m need room l t f i p.here)
  judged_settled (faulty {f} {i} p) (fits t) = absurd (fits_faultless m need room l t f i p.here)
  judged_settled (faulty p) (faulty q) = one_fault p q

pub check_settled : {most : ℕ} {s : Sheet} {l : List ℕ} {x y : Finding} → Checked most s l x → Checked most s l y → x ≡ y
check_settled (spoiled n) (spoiled k) = refl
check_settled (spoiled n) (judged r x) = absurd (n r)
check_settled (judged r x) (spoiled n) = absurd (n r)
check_settled (judged r x) (judged q y) = judged_settled x y
