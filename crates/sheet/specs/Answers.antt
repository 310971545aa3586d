-- What opening a sheet and asking for its class size answer, by 01's order of tests read top down.
-- Largest marks and a table's length are parameters.
use Rattle.std.specs.Prelude.{ℕ, cond, List}
use Rattle.profiles.specs.Profiles.{profile_of, names_ok}
use Rattle.sheet.specs.Limits.{marks_ok}
use Rattle.sheet.specs.Record.{sheet_of, opened_under, opened, in_class}
use Rattle.sheet.specs.Sound.{ClassReady, record_of, size_of}
use Rattle.sheet.specs.Told.{Answer, Value}
use Rattle.sheet.specs.declared.Sheet.{Sheet}
use Rattle.sheet.specs.declared.Refused.{Refused}
use Rattle.refusals.specs.declared.Refusal.{Refusal}

-- a refused opening gives the sheet of an opened one-mark class
abbrev pub refused_opening : ℕ → ℕ → Answer
refused_opening n number = record { number = number; sheet = sheet_of n (opened 1) }

-- the error that brings it
abbrev pub refused : ℕ → Refusal → Refused
refused n e = record { refusal = e; sheet = sheet_of n (opened 1) }

-- opening: 1 if marks are not 1 to the most
abbrev pub open_of : ℕ → ℕ → ℕ → Answer
open_of most n m = cond (marks_ok most m) (record { number = 0; sheet = sheet_of n (opened m) }) (refused_opening n 1)

-- opening under a profile of these groups: 1 as before, then 13 if it is faulty
abbrev pub open_under_of : ℕ → ℕ → ℕ → List ℕ → Answer
open_under_of most n m groups =
    cond (marks_ok most m)
    (cond (names_ok m groups) (record { number = 0; sheet = sheet_of n (opened_under m (profile_of groups)) }) (refused_opening n 13))
    (refused_opening n 1)

-- class size: 7 as for the list, else the number of combinations in the class that the counts tell
pub data ClassSize (most : ℕ) (s : Sheet) : Value → Type 0 where
  spoiled : (ClassReady most s → ⊥) → ClassSize most s (record { number = 7; value = 0 })
  told : ClassReady most s → ClassSize most s (record { number = 0; value = size_of s.marks (in_class (record_of s)) })
