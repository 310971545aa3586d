-- Entries at 3^m and above are neither read nor changed: sheets that agree below get the same answer, and agree below afterwards.
use Prim.Native.Nat.{ℕ, ◌+◌, ◌^◌, ◌<◌}
use mathlib.Core.Path.{◌≡◌, refl, sym, ◌∙◌, ap, ap₂, subst}
use mathlib.Core.Bool.{Bool, true, false, cond}
use mathlib.Core.List.{List}
use native.Mathlib.Omega.{arith}
use lib.Dec.{leb}
use borrow.Author.Tests.{ne_eqb}
use Rattle.ground.proofs.Cases.{same_or}
use Rattle.boxes.specs.Boxes.{single, free_count}
use Rattle.boxes.proofs.Boxes.{contains_box}
use Rattle.boxes.proofs.Choices.{through-lt}
use Rattle.tables.specs.declared.Shift.{Shift}
use Rattle.tables.specs.Tables.{entry, own, fits_shifted, touched, moved}
use Rattle.tables.proofs.Shifts.{moved_same, moved_above}
use Rattle.tables.proofs.Touched.{touched_ext}
use Rattle.profiles.specs.declared.Profile.{Profile}
use Rattle.classes.specs.declared.Standing.{Standing}
use Rattle.classes.specs.Standings.{outs, eithers}
use Rattle.sheet.specs.declared.Sheet.{Sheet}
use Rattle.sheet.specs.Limits.{most_marks, entries, marks_ok, most_held}
use Rattle.sheet.specs.Record.{Table, outside_counts, either_counts, held_seconds, kept, sheet_with}
use Rattle.sheet.specs.Entries.{Long, Agree}
use Rattle.sheet.proofs.Limits.{boxes_fit}
use Rattle.changes.specs.declared.Call.{Call}
use Rattle.changes.specs.declared.Call.TheVariants.{Change, Receive, Withdraw}
use Rattle.changes.specs.declared.Move.{Move}
use Rattle.changes.specs.Calls.{answered, between, change_move, fits_count, fits_amount, change_no, amount_no, move_of, shift_in, moved_sheet, number_on, did_of}
use Rattle.changes.specs.Promises.{Alike, AboveKept}
use Rattle.changes.proofs.Alters.{by_answer, table-moved}
use Rattle.changes.proofs.Tests.{accepts}

-- two tables with the same entries of boxes

abbrev Same : ℕ → List ℕ → List ℕ → Type 0
Same m t u = (b : ℕ) → b < 3 ^ m → entry t b ≡ entry u b

counts_same : (m c : ℕ) (by : Shift) (t u : List ℕ) → Same m t u → touched m c (fits_count m by t) ≡ touched m c (fits_count m by u)
unfolding fits_count
counts_same m c by t u h = touched_ext m c (fits_count m by t) (fits_count m by u) (λ b e. ap (fits_shifted by (2 ^ free_count m b)) (h b (contains_box m b c e)))

amounts_same : (m c : ℕ) (more : Bool) (d : ℕ) (t u : List ℕ) → Same m t u → touched m c (fits_amount more d t) ≡ touched m c (fits_amount more d u)
unfolding fits_amount
amounts_same m c more d t u h =
    touched_ext m c (fits_amount more d t) (fits_amount more d u) (λ b e. ap (λ (x : ℕ). cond more (leb (x + d) most_held) (leb d x)) (h b (contains_box m b c e)))

-- a sheet's tables, taken over m marks and a profile
abbrev over : ℕ → Profile → Sheet → Sheet
over m p s = sheet_with m p s.outside s.either s.held

-- sheets that agree

alike : (n k : ℕ) (s u s' u' : Sheet) → n ≡ k → Agree s u → (n ≡ 0 → Agree s' u') → Alike (answered n s s') (answered k u u')
alike n k s u s' u' e old new = record {
  number = e;
  sheet = subst (λ (x : ℕ). Agree (answered n s s').sheet (answered x u u').sheet) e
      (same_or n 0
      (λ z. subst (λ (x : ℕ). Agree (answered x s s').sheet (answered x u u').sheet) (sym z) (new z))
      (λ x. subst (λ (t : Bool). Agree (cond t s' s) (cond t u' u)) (sym (ne_eqb n 0 x)) old));
}

-- of one number of marks
module _ (m : ℕ) (p : Profile) (c : ℕ) (s u : Sheet) (same : (t : Table) → Same m (kept t s) (kept t u)) where
  own_same : (t : Table) → own m (kept t s) c ≡ own m (kept t u) c
  own_same t = same t (single m c) (through-lt m c 0)

  change_same : (to : Standing) → change_no most_marks to (over m p s) c ≡ change_no most_marks to (over m p u) c
  unfolding change_no
  change_same to =
      rw (
        own_same outside_counts,
        own_same either_counts,
        own_same held_seconds,
        counts_same m c (between (own m u.outside c) (outs to)) s.outside u.outside (same outside_counts),
        counts_same m c (between (own m u.either c) (eithers to)) s.either u.either (same either_counts),
      )

  amount_same : (more : Bool) (d : ℕ) → amount_no most_marks more (over m p s) c d ≡ amount_no most_marks more (over m p u) c d
  unfolding amount_no
  amount_same more d = rw (own_same outside_counts, own_same either_counts, amounts_same m c more d s.held u.held (same held_seconds))

  move_same : (to : Standing) → move_of (over m p s) (Change to c) ≡ move_of (over m p u) (Change to c)
  move_same to = ap₂ (λ (x y : ℕ). change_move x y to c) (own_same outside_counts) (own_same either_counts)

module _ (s u : Sheet) (a : Agree s u) where
  amount_number_same : (more : Bool) (c d : ℕ) → amount_no most_marks more s c d ≡ amount_no most_marks more u c d
  amount_number_same more c d = amount_same s.marks s.profile c s u a.tables more d ∙ ap₂ (λ (m : ℕ) (p : Profile). amount_no most_marks more (over m p u) c d) a.marks a.profile

  number_same : (k : Call) → number_on most_marks s k ≡ number_on most_marks u k
  number_same (Change to c) = change_same s.marks s.profile c s u a.tables to ∙ ap₂ (λ (m : ℕ) (p : Profile). change_no most_marks to (over m p u) c) a.marks a.profile
  number_same (Receive c d) = amount_number_same true c d
  number_same (Withdraw c d) = amount_number_same false c d

  -- the call makes the same move
  call_same : (k : Call) → move_of s k ≡ move_of u k
  call_same (Change to c) = move_same s.marks s.profile c s u a.tables to ∙ ap₂ (λ (m : ℕ) (p : Profile). move_of (over m p u) (Change to c)) a.marks a.profile
  call_same (Receive c d) = refl
  call_same (Withdraw c d) = refl

  module _ (ls : Long entries s) (lu : Long entries u) where
    moved_agree : (v : Move) → marks_ok most_marks s.marks ≡ true → Agree (moved_sheet v s) (moved_sheet v u)
    moved_agree v ok =
        let room = boxes_fit s.marks ok in
        record {
          marks = a.marks;
          profile = a.profile;
          tables = λ t b l.
              ap (λ (x : List ℕ). entry x b) (table-moved v s t)
              ∙ moved_same s.marks v.at (shift_in t v) (kept t s) (kept t u) (omega (arith, ls t)) (omega (arith, lu t)) (a.tables t) b l
              ∙ ap (λ (m : ℕ). entry (moved m v.at (shift_in t v) (kept t u)) b) a.marks
              ∙ sym (ap (λ (x : List ℕ). entry x b) (table-moved v u t));
        }

    -- NEITHER READ
    pub did_alike : (k : Call) → Alike (did_of most_marks s k) (did_of most_marks u k)
    did_alike k =
        alike _ _ s u (moved_sheet (move_of s k) s) (moved_sheet (move_of u k) u) (number_same k) a
        (λ z. subst (λ (v : Move). Agree (moved_sheet (move_of s k) s) (moved_sheet v u)) (call_same k) (moved_agree (move_of s k) (accepts s k z).marks))

-- NOR CHANGED
pub did_above : (s : Sheet) (k : Call) → AboveKept s (did_of most_marks s k).sheet
did_above s k =
    let v = move_of s k in
    by_answer (AboveKept s) (number_on most_marks s k) s (moved_sheet v s) (λ t b l lb. refl)
    (λ z t b l lb. ap (λ (x : List ℕ). entry x b) (table-moved v s t) ∙ moved_above s.marks v.at (shift_in t v) (kept t s) b l lb)
