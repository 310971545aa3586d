-- Entries at 3^m and above are not read: two sheets that agree below give a list the same finding.
use Prim.Native.Nat.{ℕ}
use mathlib.Core.Path.{subst}
use mathlib.Core.List.{List}
use Rattle.sheet.specs.Record.{Record}
use Rattle.sheet.specs.Entries.{Agree}
use Rattle.sheet.specs.declared.Sheet.{Sheet}
use Rattle.sheet.proofs.Agrees.{agree_back, record_same, class_ready_same}
use Rattle.checking.specs.Finding.{Finding}
use Rattle.checking.specs.Answers.{JudgedFor, Checked}

pub check_alike : {most : ℕ} {s u : Sheet} {l : List ℕ} {x : Finding} → Agree s u → Checked most s l x → Checked most u l x
check_alike a (Checked.spoiled n) = Checked.spoiled (λ r. n (class_ready_same (agree_back a) r))
check_alike {l = l} {x} a (Checked.judged r j) = Checked.judged (class_ready_same a r) (subst (λ (y : Record). JudgedFor y l x) (record_same a) j)
