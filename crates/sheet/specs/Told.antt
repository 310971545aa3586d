-- What 01 tells of a call's result: its number, and the sheet or the value that goes with it. A refusal leaves the sheet as it was, and its value is 0.
use Rattle.std.specs.Prelude.{ℕ, Result, Ok, Err}
use Rattle.refusals.specs.Numbers.{number_of}
use Rattle.refusals.specs.declared.Refusal.{Refusal}
use Rattle.sheet.specs.declared.Sheet.{Sheet}
use Rattle.sheet.specs.declared.Refused.{Refused}

-- the number of a call that opens or changes a sheet, and the sheet that is left
pub record Answer : Type 0 where
  pub number : ℕ
  pub sheet : Sheet

-- the number of a call that only reads, and what it tells
pub record Value : Type 0 where
  pub number : ℕ
  pub value : ℕ

-- a class change, a receipt or a withdrawal: 0 when done, or the refusal's number, and the sheet that is left
abbrev pub answer_of : Result (Unit {0}) Refusal → Sheet → Answer
answer_of (Ok _) s = record { number = 0; sheet = s }
answer_of (Err e) s = record { number = number_of e; sheet = s }

-- a list's length, a total, a class size or a written length: 0 and the value, or the refusal's number and 0
abbrev pub value_of : Result ℕ Refusal → Value
value_of (Ok v) = record { number = 0; value = v }
value_of (Err e) = record { number = number_of e; value = 0 }

-- an opening: 0 and the sheet, or the refusal's number and the sheet that it gives
abbrev pub opening_of : Result Sheet Refused → Answer
opening_of (Ok s) = record { number = 0; sheet = s }
opening_of (Err r) = record { number = number_of r.refusal; sheet = r.sheet }
