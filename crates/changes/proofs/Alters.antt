-- One accepted call alters the entries of exactly the boxes that contain its combination, whatever the sheet.
use Prim.Native.Nat.{ℕ}
use mathlib.Core.Path.{◌≡◌, refl, sym, ap, subst}
use mathlib.Core.Bool.{Bool, cond}
use borrow.Author.Tests.{ne_eqb}
use Rattle.ground.proofs.Cases.{same_or}
use Rattle.tables.specs.Tables.{moved, Shifted}
use Rattle.tables.proofs.Shifts.{moved_shifted}
use Rattle.sheet.specs.declared.Sheet.{Sheet}
use Rattle.sheet.specs.Limits.{most_marks}
use Rattle.sheet.specs.Record.{Table, outside_counts, either_counts, held_seconds, kept}
use Rattle.changes.specs.declared.Call.{Call}
use Rattle.changes.specs.declared.Move.{Move}
use Rattle.changes.specs.Calls.{answered, move_of, shift_in, moved_sheet, did_of}
use Rattle.changes.specs.Promises.{Altered}
use Rattle.changes.specs.Parts.{Accepted}
use Rattle.changes.proofs.Tests.{accepts}

-- an answer of 0 leaves the new sheet, any other the old one

pub by_answer : (P : Sheet → Type 0) (n : ℕ) (old new : Sheet) → P old → (n ≡ 0 → P new) → P (answered n old new).sheet
by_answer P n old new o w =
    same_or n 0
    (λ z. subst (λ (k : ℕ). P (answered k old new).sheet) (sym z) (w z))
    (λ x. subst (λ (e : Bool). P (cond e new old)) (sym (ne_eqb n 0 x)) o)

-- each table is moved by its own shift
pub table-moved : (v : Move) (s : Sheet) (t : Table) → kept t (moved_sheet v s) ≡ moved s.marks v.at (shift_in t v) (kept t s)
table-moved v s outside_counts = refl
table-moved v s either_counts = refl
table-moved v s held_seconds = refl

module _ (s : Sheet) (v : Move) (w : Accepted s v) where
  pub table_shifted : (t : Table) → Shifted s.marks v.at (shift_in t v) (kept t s) (kept t (moved_sheet v s))
  table_shifted t =
      subst (Shifted s.marks v.at (shift_in t v) (kept t s)) (sym (table-moved v s t)) (moved_shifted s.marks v.at (shift_in t v) (kept t s) (w.bear t))

  altered : Altered v s (moved_sheet v s)
  altered = record { marks = refl; profile = refl; tables = table_shifted; some = w.some; moves = w.moves }

pub did_alters : (s : Sheet) (k : Call) → (did_of most_marks s k).number ≡ 0 → Altered (move_of s k) s (did_of most_marks s k).sheet
did_alters s k z =
    let v = move_of s k in
    subst (Altered v s) (sym (ap (λ (n : ℕ). (answered n s (moved_sheet v s)).sheet) z)) (altered s v (accepts s k z))
