-- Demand 3, every sequence: by induction on the calls.
use mathlib.Core.Path.{◌≡◌, refl, ◌∙◌, ap}
use mathlib.Core.List.{List, [], ◌∷◌}
use Prim.Native.Nat.{ℕ}
use Rattle.sheet.specs.Limits.{entries}
use Rattle.sheet.specs.Record.{Record, sheet_of}
use Rattle.sheet.specs.Told.{Answer}
use Rattle.changes.specs.declared.Call.{Call}
use Rattle.histories.specs.Histories.{Good, number_of, after, after_all, numbers_of, sheet_after, number_given}
use Rattle.histories.proofs.Kept.{did_kept}
use Rattle.histories.proofs.Goods.{good_after}

-- after every sequence of calls the sheet is the one worked out afresh from the record after them
pub sheet_afresh : (r : Record) → Good r → (ks : List Call) → after_all sheet_after (sheet_of entries r) ks ≡ sheet_of entries (after_all after r ks)
unfolding after_all
sheet_afresh r good [] = refl
sheet_afresh r good (k ∷ ks) =
    ap (λ (a : Answer). after_all sheet_after a.sheet ks) (did_kept r good k) ∙ sheet_afresh (after r k) (good_after r good k) ks

-- every answer given is the one worked out from the record alone
pub answers_afresh : (r : Record) → Good r → (ks : List Call) → numbers_of number_given sheet_after (sheet_of entries r) ks ≡ numbers_of number_of after r ks
unfolding numbers_of
answers_afresh r good [] = refl
answers_afresh r good (k ∷ ks) =
    ap (λ (a : Answer). a.number ∷ numbers_of number_given sheet_after a.sheet ks) (did_kept r good k)
    ∙ ap (λ (l : List ℕ). number_of r k ∷ l) (answers_afresh (after r k) (good_after r good k) ks)

pub good_all : (r : Record) → Good r → (ks : List Call) → Good (after_all after r ks)
unfolding after_all
good_all r good [] = good
good_all r good (k ∷ ks) = good_all (after r k) (good_after r good k) ks
