-- What the check answers of a sheet and a list: 7 as the list does, and then what is found for the class that the counts tell.
use Rattle.std.specs.Prelude.{ℕ, List, Option, Some, None, Result, Ok, Err}
use Rattle.refusals.specs.Numbers.{number_of, place_of}
use Rattle.refusals.specs.declared.Refusal.{Refusal}
use Rattle.sheet.specs.Record.{Record, in_class, not_out}
use Rattle.sheet.specs.Sound.{ClassReady, record_of}
use Rattle.sheet.specs.declared.Sheet.{Sheet}
use Rattle.checking.specs.declared.Fault.{Fault}
use Rattle.checking.specs.Finding.{Finding}
use Rattle.checking.specs.Finding.Finding.{Spoiled, Fitting, Faulty}
use Rattle.checking.specs.declared.Verdict.{Verdict}
use Rattle.checking.specs.Faults.{fault_number, Judged}

-- a list against a record: it must cover the class, and may cover what is not out
abbrev pub JudgedFor : Record → List ℕ → Finding → Type 0
JudgedFor r l x = Judged r.marks (in_class r) (not_out r) l x

pub data Checked (most : ℕ) (s : Sheet) (l : List ℕ) : Finding → Type 0 where
  spoiled : (ClassReady most s → ⊥) → Checked most s l Spoiled
  judged : {x : Finding} → ClassReady most s → JudgedFor (record_of s) l x → Checked most s l x

-- the number of the table, and the values: the fault's number, 0 where the list fits, and its place; a refusal has 0 for both
abbrev pub verdict_of : Finding → Verdict
verdict_of Spoiled = record { answer = 7; place = 0; fault = 0; at = 0 }
verdict_of Fitting = record { answer = 0; place = 0; fault = 0; at = 0 }
verdict_of (Faulty f i) = record { answer = 0; place = 0; fault = fault_number f; at = i }

-- what a check's result says was found: a check is refused only where the class table is spoiled
abbrev pub finding_of : Result (Option (Fault × ℕ)) Refusal → Finding
finding_of (Ok None) = Fitting
finding_of (Ok (Some f)) = Faulty f.0 f.1
finding_of (Err _) = Spoiled

-- the reply to a check, or to one whose sheet was not read
abbrev pub verdict_on : Result (Option (Fault × ℕ)) Refusal → Verdict
verdict_on (Ok found) = verdict_of (finding_of (Ok found))
verdict_on (Err e) = record { answer = number_of e; place = place_of e; fault = 0; at = 0 }
