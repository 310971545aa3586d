-- DEMAND 1. No input may make it fail: every call does its work or refuses by a number of the table, and a refusal leaves everything as it was.
-- (That a call always returns, and does nothing undefined on the way, is what the check of its code says: no public call has a `requires`.)
use Rattle.std.specs.Prelude.{ℕ, ◌≡◌, Bool, true, not, ◌&&◌, ◌||◌, List, eqb, leb, get_or}
use Rattle.sheet.specs.Limits.{most_marks, entries}
use Rattle.sheet.specs.Record.{sheet_of, opened}
use Rattle.sheet.specs.Answers.{open_of, open_under_of}
use Rattle.stored.specs.Answers.{ReadsBy}
use Rattle.stored.specs.declared.Layout.{Layout}
use Rattle.stored.specs.Told.{Read}
use Rattle.pla.specs.Answers.{ReadsPla}
use Rattle.demands.specs.Calls.{Told, Lent, Made}

-- the numbers of the table: 0 to 10, of which 6 is not used, 12 for an either combination and 13 for a faulty profile (11 is the year's alone)
abbrev pub in_table : ℕ → Bool
in_table n = (leb n 10 && not (eqb n 6)) || eqb n 12 || eqb n 13

-- what every call answers: a number of the table; refused, 0 for each value and all that was lent as it was; the place is 0 for every number but 10
pub record Refuses (r : Told) (before after : Lent) : Type 0 where
  pub of_table : in_table r.answer ≡ true
  pub leaves : (r.answer ≡ 0 → ⊥) → after ≡ before
  pub no_value : (r.answer ≡ 0 → ⊥) → (i : ℕ) → get_or r.values i 0 ≡ 0
  pub no_place : (r.answer ≡ 10 → ⊥) → r.place ≡ 0

pub record Demand1 : Type 0 where
  pub every_call : {r : Told} {before after : Lent} → Made r before after → Refuses r before after
  -- no call answers the number that is not used
  pub no_six : {r : Told} {before after : Lent} → Made r before after → r.answer ≡ 6 → ⊥
  -- a refused opening, or a refused read, gives the sheet of an opened one-mark class
  pub opening : (m : ℕ) → ((open_of most_marks entries m).number ≡ 0 → ⊥) → (open_of most_marks entries m).sheet ≡ sheet_of entries (opened 1)
  pub opening_under : (m : ℕ) (groups : List ℕ) → ((open_under_of most_marks entries m groups).number ≡ 0 → ⊥)
      → (open_under_of most_marks entries m groups).sheet ≡ sheet_of entries (opened 1)
  pub reading : (layout : Layout) {t : List ℕ} {a : Read} → ReadsBy layout most_marks entries t a → (a.number ≡ 0 → ⊥) → a.sheet ≡ sheet_of entries (opened 1)
  pub reading_pla : {t : List ℕ} {a : Read} → ReadsPla most_marks entries t a → (a.number ≡ 0 → ⊥) → a.sheet ≡ sheet_of entries (opened 1)
