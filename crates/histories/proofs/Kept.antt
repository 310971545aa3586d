-- Demand 3, one call: on the sheet worked out afresh from a record, the program answers by the number worked out from the record alone, and
-- leaves the sheet worked out afresh from the record after the call: the call shifts each quantity of the record as it shifts the table.
use Prim.Native.Nat.{ℕ, ◌^◌, ◌<◌, ◌≤◌}
use mathlib.Core.Path.{◌≡◌, refl, sym, ◌∙◌, ap, ap₂}
use mathlib.Core.Bool.{Bool, true, false, not, cond}
use mathlib.Core.List.{List}
use native.Mathlib.Omega.{arith}
use lib.Dec.{eqb, leb}
use borrow.Author.Tests.{leb-true, eq-eqb, ne_eqb, le-leb, lt-leb}
use Rattle.ground.proofs.Cases.{below_or, same_or}
use Rattle.tables.specs.Tables.{afresh, moved}
use Rattle.tables.specs.Parts.{ShiftsAt}
use Rattle.tables.proofs.Shifts.{stays_at, moved-afresh}
use Rattle.classes.specs.Standings.{outs, eithers}
use Rattle.sheet.specs.Limits.{most_marks, entries, marks_ok, amount_ok}
use Rattle.sheet.specs.Record.{Record, Table, outside_counts, either_counts, held_seconds, quantity, sheet_with, sheet_from, sheet_of}
use Rattle.sheet.specs.declared.Sheet.{Sheet}
use Rattle.sheet.specs.Told.{Answer}
use Rattle.sheet.proofs.Limits.{boxes_fit}
use Rattle.changes.specs.Calls.{answered, amount_shift, move_of, shift_in, moved_sheet, did_of}
use Rattle.changes.specs.declared.Call.{Call}
use Rattle.changes.specs.declared.Call.TheVariants.{Change, Receive, Withdraw}
use Rattle.changes.specs.declared.Move.{Move}
use Rattle.histories.specs.Histories.{Good, number_of, accepted, after}
use Rattle.histories.proofs.Numbers.{changed_shifts, own_outs, own_eithers, number_afresh}

-- what an accepted call was judged by

pub in-range : (m c : ℕ) (x : ℕ) → cond (leb (2 ^ m) c) 2 x ≡ 0 → (c < 2 ^ m) × (x ≡ 0)
in-range m c x z =
    below_or c (2 ^ m)
    (λ l. (l, ap (λ (t : Bool). cond t 2 x) (sym (lt-leb (2 ^ m) c l)) ∙ z))
    (λ l. absurd (omega (arith, ap (λ (t : Bool). cond t 2 x) (sym (le-leb (2 ^ m) c l)) ∙ z)))

-- a class change: not settled by the profile, another standing, and nothing held by what becomes either
pub change_passed : (s e f : Bool) → ◌≡◌ {A = ℕ} (cond s 12 (cond e 3 (cond f 12 0))) 0 → (s ≡ false) × (e ≡ false) × (f ≡ false)
change_passed true e f z = absurd (omega arith)
change_passed false true f z = absurd (omega arith)
change_passed false false true z = absurd (omega arith)
change_passed false false false z = (refl, refl, refl)

pub receive_passed : (a e t : Bool) → ◌≡◌ {A = ℕ} (cond (not a) 4 (cond e 12 (cond (not t) 8 0))) 0 → (e ≡ false) × (t ≡ true)
receive_passed false e t z = absurd (omega arith)
receive_passed true true t z = absurd (omega arith)
receive_passed true false false z = absurd (omega arith)
receive_passed true false true z = (refl, refl)

pub withdraw_passed : (a t : Bool) → ◌≡◌ {A = ℕ} (cond (not a) 4 (cond (not t) 9 0)) 0 → t ≡ true
withdraw_passed false t z = absurd (omega arith)
withdraw_passed true false z = absurd (omega arith)
withdraw_passed true true z = refl

pub call_low : (r : Record) (k : Call) (s : Sheet) → number_of r k ≡ 0 → (move_of s k).at < 2 ^ r.marks
call_low r (Change to c) s z = (in-range r.marks c _ z).0
call_low r (Receive c d) s z = (in-range r.marks c _ z).0
call_low r (Withdraw c d) s z = (in-range r.marks c _ z).0

-- each quantity of the record is shifted at the combination, and nowhere else

module _ (r : Record) (c : ℕ) where
  receive_shifts : (d : ℕ) → ShiftsAt r.marks c (amount_shift true d) r.times (accepted r (Receive c d)).times
  receive_shifts d = record { here = rw (eq-eqb c c refl); others = λ x l n. rw (ne_eqb x c n) (omega arith) }

  withdraw_shifts : (d : ℕ) → leb d (r.times c) ≡ true → ShiftsAt r.marks c (amount_shift false d) r.times (accepted r (Withdraw c d)).times
  withdraw_shifts d h = record { here = rw (eq-eqb c c refl) (omega (arith, leb-true d (r.times c) h)); others = λ x l n. rw (ne_eqb x c n) (omega arith) }

module _ (n : ℕ) (r : Record) (fits : 3 ^ r.marks ≤ n) (marks : marks_ok most_marks r.marks ≡ true) where
  quantity_shifts : (k : Call) → number_of r k ≡ 0 → (t : Table)
      → let v = move_of (sheet_of n r) k in ShiftsAt r.marks v.at (shift_in t v) (quantity t r) (quantity t (accepted r k))
  quantity_shifts (Change to c) z outside_counts =
      rw (own_outs n r fits marks c (in-range r.marks c _ z).0) (changed_shifts r.marks c outs r.standing to)
  quantity_shifts (Change to c) z either_counts =
      rw (own_eithers n r fits marks c (in-range r.marks c _ z).0) (changed_shifts r.marks c eithers r.standing to)
  quantity_shifts (Change to c) z held_seconds = stays_at r.marks c r.times
  quantity_shifts (Receive c d) z outside_counts = stays_at r.marks c (quantity outside_counts r)
  quantity_shifts (Receive c d) z either_counts = stays_at r.marks c (quantity either_counts r)
  quantity_shifts (Receive c d) z held_seconds = receive_shifts r c d
  quantity_shifts (Withdraw c d) z outside_counts = stays_at r.marks c (quantity outside_counts r)
  quantity_shifts (Withdraw c d) z either_counts = stays_at r.marks c (quantity either_counts r)
  quantity_shifts (Withdraw c d) z held_seconds = withdraw_shifts r c d (withdraw_passed (amount_ok d) _ (in-range r.marks c _ z).1)

-- so the moved sheet is the one worked out afresh from the record after the call
module _ (n : ℕ) (v : Move) (r q : Record) where
  moved_sheet_shifts : v.at < 2 ^ r.marks → ((t : Table) → ShiftsAt r.marks v.at (shift_in t v) (quantity t r) (quantity t q))
      → moved_sheet v (sheet_of n r) ≡ sheet_from n r.marks r.profile (quantity outside_counts q) (quantity either_counts q) (quantity held_seconds q)
  moved_sheet_shifts low shifts =
      let table : (t : Table) → moved r.marks v.at (shift_in t v) (afresh n r.marks (quantity t r)) ≡ afresh n r.marks (quantity t q) =
      λ t. moved-afresh n r.marks v.at (shift_in t v) (quantity t r) (quantity t q) low (shifts t) in
      ap₂ (λ (x y : List ℕ). sheet_with r.marks r.profile x y (moved r.marks v.at v.held (afresh n r.marks r.times))) (table outside_counts) (table either_counts)
      ∙ ap (sheet_with r.marks r.profile (afresh n r.marks (quantity outside_counts q)) (afresh n r.marks (quantity either_counts q))) (table held_seconds)

same_marks : (n : ℕ) (r : Record) (k : Call) → let q = accepted r k in
    sheet_from n r.marks r.profile (quantity outside_counts q) (quantity either_counts q) (quantity held_seconds q) ≡ sheet_of n q
same_marks n r (Change to c) = refl
same_marks n r (Receive c d) = refl
same_marks n r (Withdraw c d) = refl

-- an answer with the record's number, and the sheet of the record after the call
matched : (r a : Record) (n k : ℕ) (new : Sheet) → n ≡ k → (k ≡ 0 → new ≡ sheet_of entries a)
    → ◌≡◌ {A = Answer} (answered n (sheet_of entries r) new) (record { number = k; sheet = sheet_of entries (cond (eqb k 0) a r) })
matched r a n k new e same =
    ap (λ (x : ℕ). answered x (sheet_of entries r) new) e ∙
    same_or k 0
    (λ z. rw (eq-eqb k 0 z) (ap (λ (s : Sheet). record { number = k; sheet = s }) (same z)))
    (λ d. rw (ne_eqb k 0 d))

pub did_kept : (r : Record) → Good r → (k : Call)
    → ◌≡◌ {A = Answer} (did_of most_marks (sheet_of entries r) k) (record { number = number_of r k; sheet = sheet_of entries (after r k) })
did_kept r good k =
    let fits = boxes_fit r.marks good.marks in
    let v = move_of (sheet_of entries r) k in
    matched r (accepted r k) _ (number_of r k) (moved_sheet v (sheet_of entries r)) (number_afresh entries r fits good.marks k)
    (λ z. moved_sheet_shifts entries v r (accepted r k) (call_low r k (sheet_of entries r) z) (quantity_shifts entries r fits good.marks k z) ∙ same_marks entries r k)
