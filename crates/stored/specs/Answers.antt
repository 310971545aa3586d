-- What reading and writing answer (01, 'Numbers the desk may see'). Largest marks and a table's length are parameters.
use Rattle.std.specs.Prelude.{ℕ, ◌≤◌, ◌<◌, ◌≡◌, List, ◌++◌, length, drop}
use Rattle.sheet.specs.Record.{sheet_of, opened}
use Rattle.sheet.specs.Sound.{Ready, record_of}
use Rattle.sheet.specs.declared.Sheet.{Sheet}
use Rattle.sheet.specs.Told.{Value}
use Rattle.stored.specs.Fields.{Outcome, good, refused, ReadingBy}
use Rattle.stored.specs.declared.Layout.{Layout}
use Rattle.stored.specs.declared.Layout.TheVariants.{Today}
use Rattle.stored.specs.Form.{form}
use Rattle.stored.specs.Told.{Read}

-- the sheet worked out from what was read; a refused read gives the sheet of an opened one-mark class with its number, and the place
abbrev pub read_of : ℕ → Outcome → Read
read_of n (good r) = record { number = 0; place = 0; sheet = sheet_of n r }
read_of n (refused number place) = record { number = number; place = place; sheet = sheet_of n (opened 1) }

-- the answer to some bytes is that of what they read as, whichever way of reading R says it
pub record ReadBy (R : Outcome → Type 0) (n : ℕ) (answer : Read) : Type 0 where
  pub outcome : Outcome
  pub run : R outcome
  pub is : answer ≡ read_of n outcome

-- by the stored form of a layout
abbrev pub ReadsBy : Layout → ℕ → ℕ → List ℕ → Read → Type 0
ReadsBy layout most n t answer = ReadBy (ReadingBy layout most t) n answer

-- by today's
abbrev pub Reads : ℕ → ℕ → List ℕ → Read → Type 0
Reads most n t answer = ReadsBy Today most n t answer

-- Writing a sheet to the lent bytes `out`: 7 as for the total; 5 exactly if room is below the length of the form; else the form stands in front, and
-- the bytes behind it stay. A refused call leaves every byte.
pub data Writes (most : ℕ) (s : Sheet) (out : List ℕ) : Value → List ℕ → Type 0 where
  spoiled : (Ready most s → ⊥) → Writes most s out (record { number = 7; value = 0 }) out
  short : Ready most s → length out < length (form (record_of s)) → Writes most s out (record { number = 5; value = 0 }) out
  written : Ready most s → length (form (record_of s)) ≤ length out
      → Writes most s out (record { number = 0; value = length (form (record_of s)) }) (form (record_of s) ++ drop (length (form (record_of s))) out)
