-- What the reader and the writer of PLA texts answer. Largest marks and a table's length are parameters.
use Rattle.std.specs.Prelude.{ℕ, ◌≤◌, ◌<◌, List, ◌++◌, length, drop}
use Rattle.lists.specs.Lists.{FirstShortest}
use Rattle.sheet.specs.Record.{in_class, not_out}
use Rattle.sheet.specs.Sound.{ClassReady, record_of}
use Rattle.sheet.specs.declared.Sheet.{Sheet}
use Rattle.sheet.specs.Told.{Value}
use Rattle.stored.specs.Answers.{ReadBy}
use Rattle.stored.specs.Told.{Read}
use Rattle.pla.specs.Reading.{PlaSays}
use Rattle.pla.specs.Writing.{pla_text}

-- the answer to a text is that of what it says
abbrev pub ReadsPla : ℕ → ℕ → List ℕ → Read → Type 0
ReadsPla most n t answer = ReadBy (PlaSays most t) n answer

-- Writing the list of a sheet's class to the lent bytes `out`: 7 as for the list; 5 exactly if the text is longer than the room; else the text stands
-- in front, and the bytes behind it stay. A refused call leaves every byte.
pub data WritesPla (most : ℕ) (s : Sheet) (out : List ℕ) : Value → List ℕ → Type 0 where
  spoiled : (ClassReady most s → ⊥) → WritesPla most s out (record { number = 7; value = 0 }) out
  short : {l : List ℕ} → ClassReady most s → FirstShortest s.marks (in_class (record_of s)) (not_out (record_of s)) l → length out < length (pla_text s.marks l)
      → WritesPla most s out (record { number = 5; value = 0 }) out
  written : {l : List ℕ} → ClassReady most s → FirstShortest s.marks (in_class (record_of s)) (not_out (record_of s)) l
      → length (pla_text s.marks l) ≤ length out
      → WritesPla most s out (record { number = 0; value = length (pla_text s.marks l) }) (pla_text s.marks l ++ drop (length (pla_text s.marks l)) out)
