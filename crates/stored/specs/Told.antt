-- What 01 tells of a reading: its number, the place, which is 0 for every number but 10, and the sheet.
use Rattle.std.specs.Prelude.{ℕ, Result, Ok, Err}
use Rattle.refusals.specs.Numbers.{number_of, place_of}
use Rattle.sheet.specs.declared.Refused.{Refused}
use Rattle.sheet.specs.declared.Sheet.{Sheet}

pub record Read : Type 0 where
  pub number : ℕ
  pub place : ℕ
  pub sheet : Sheet

-- 0 and the sheet, or the refusal's number and place, and the sheet that it gives
abbrev pub read_as : Result Sheet Refused → Read
read_as (Ok s) = record { number = 0; place = 0; sheet = s }
read_as (Err r) = record { number = number_of r.refusal; place = place_of r.refusal; sheet = r.sheet }
