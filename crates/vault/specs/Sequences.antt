-- Demand 3 through the entries: a C program keeps the bytes of a sheet, and takes over what an accepted change wrote.
use Rattle.std.specs.Prelude.{ℕ, ◌≡◌, cond, List, [], ◌∷◌, eqb, ltb, length, take}
use Rattle.sheet.specs.Limits.{most_marks}
use Rattle.sheet.specs.Record.{Record}
use Rattle.stored.specs.Form.{form}
use Rattle.histories.specs.Histories.{number_of, after}
use Rattle.sheet.specs.declared.Sheet.{Sheet}
use Rattle.sheet.specs.Told.{Answer}
use Rattle.changes.specs.Calls.{did_of}
use Rattle.changes.specs.declared.Call.{Call}
use Rattle.lent.specs.declared.Reply.{Reply}
use Rattle.lent.specs.Entries.{Changes, same}

-- an entry that writes a sheet to the bytes lent for it: a changed one, or the same
pub data Entry : Type 0 where
  changing : Call → (out : List ℕ) → Entry
  copying : (out : List ℕ) → Entry

abbrev pub lent_to : Entry → List ℕ
lent_to (changing k out) = out
lent_to (copying out) = out

-- what it does with the sheet that it read
abbrev pub call_of : Entry → Sheet → Answer
call_of (changing k out) = λ s. did_of most_marks s k
call_of (copying out) = same

-- what the program does with the bytes t, by the contracts of the entries
pub data Serves : List ℕ → List Entry → List ℕ → List ℕ → Type 0 where
  rests : {t : List ℕ} → Serves t [] [] t
  accepted : {t later z : List ℕ} (e : Entry) {r : Reply} {es : List Entry} {ns : List ℕ} → Changes (call_of e) t (lent_to e) r later → r.answer ≡ 0
      → Serves (take r.value later) es ns z → Serves t (e ∷ es) (r.answer ∷ ns) z
  refused : {t later z : List ℕ} (e : Entry) {r : Reply} {es : List Entry} {ns : List ℕ} → Changes (call_of e) t (lent_to e) r later → (r.answer ≡ 0 → ⊥)
      → Serves t es ns z → Serves t (e ∷ es) (r.answer ∷ ns) z

-- from the record alone: the call's number and the record that it leaves, a copy being no change; and then 5 exactly if the room is below the length
-- of the form. A change answered 5 is not accepted.

abbrev pub call_number : Record → Entry → ℕ
call_number r (changing k out) = number_of r k
call_number r (copying out) = 0

abbrev pub called : Record → Entry → Record
called r (changing k out) = after r k
called r (copying out) = r

abbrev pub entry_number : Record → Entry → ℕ
entry_number r e = cond (eqb (call_number r e) 0) (cond (ltb (length (lent_to e)) (length (form (called r e)))) 5 0) (call_number r e)

abbrev pub after_entry : Record → Entry → Record
after_entry r e = cond (eqb (entry_number r e) 0) (called r e) r
