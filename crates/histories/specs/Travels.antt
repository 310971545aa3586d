-- Demand 3 for a sheet that travels: between its changes it is written in its stored form to lent bytes, and read from there. It stays the same sheet.
-- Any other sheet that is read begins its history with what was read.
use Rattle.std.specs.Prelude.{ℕ, ◌≡◌, cond, List, [], ◌∷◌, ltb, length, take}
use Rattle.sheet.specs.Limits.{most_marks, entries}
use Rattle.sheet.specs.Record.{Record}
use Rattle.sheet.specs.declared.Sheet.{Sheet}
use Rattle.sheet.specs.Told.{Value}
use Rattle.changes.specs.declared.Call.{Call}
use Rattle.changes.specs.Calls.{did_of}
use Rattle.stored.specs.Answers.{Reads, Writes}
use Rattle.stored.specs.Form.{form}
use Rattle.stored.specs.Told.{Read}
use Rattle.histories.specs.Histories.{number_of, after}

-- a call that changes the sheet, or a journey through the lent bytes `out`
pub data Event : Type 0 where
  change : Call → Event
  travel : (out : List ℕ) → Event

-- what the program does, by the contracts of its calls: the number, and the sheet from then on. Where writing is refused the sheet stays where it is.
pub data Happens (s : Sheet) : Event → ℕ → Sheet → Type 0 where
  changed : (k : Call) → Happens s (change k) (did_of most_marks s k).number (did_of most_marks s k).sheet
  stayed : {out later : List ℕ} {v : Value} → Writes most_marks s out v later → (v.number ≡ 0 → ⊥) → Happens s (travel out) v.number s
  travelled : {out later : List ℕ} {v : Value} {a : Read} → Writes most_marks s out v later → v.number ≡ 0
      → Reads most_marks entries (take v.value later) a → Happens s (travel out) a.number a.sheet

-- a sequence of events, with the numbers given
pub data Lives : Sheet → List Event → List ℕ → Sheet → Type 0 where
  rests : {s : Sheet} → Lives s [] [] s
  lives : {s u z : Sheet} {e : Event} {n : ℕ} {es : List Event} {ns : List ℕ} → Happens s e n u → Lives u es ns z → Lives s (e ∷ es) (n ∷ ns) z

-- from the record alone: a journey is refused, with 5, exactly if the room is below the length of the form, and changes nothing

abbrev pub event_number : Record → Event → ℕ
event_number r (change k) = number_of r k
event_number r (travel out) = cond (ltb (length out) (length (form r))) 5 0

abbrev pub after_event : Record → Event → Record
after_event r (change k) = after r k
after_event r (travel out) = r
