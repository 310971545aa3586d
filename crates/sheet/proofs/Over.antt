-- Each table of a sheet has an entry for each box.
use Prim.Native.Nat.{ℕ, ◌^◌, ◌≤◌}
use mathlib.Core.Bool.{true}
use mathlib.Core.Path.{◌≡◌}
use native.Mathlib.Nat.{pow-le-pow_right, one-le-pow}
use native.Mathlib.Omega.{arith}
use lib.ListN.{length}
use mathlib.Core.List.{List}
use Rattle.classes.specs.Parts.{TableOver}
use Rattle.sheet.specs.Limits.{most_marks, entries, marks_ok}
use Rattle.sheet.specs.Entries.{Long}
use Rattle.sheet.specs.Record.{Table, kept}
use Rattle.sheet.specs.declared.Sheet.{Sheet}
use Rattle.sheet.proofs.Limits.{marks_most}

pub boxes_within : (m : ℕ) → m ≤ most_marks → 3 ^ m ≤ entries
boxes_within m l = pow-le-pow_right {n = 3} (omega arith) {i = m} {j = 5} l

pub some_boxes : (m : ℕ) → 1 ≤ 3 ^ m
some_boxes m = one-le-pow m 3 (omega arith)

-- a table of a sheet, if its marks are right
pub over : (m : ℕ) (t : List ℕ) → marks_ok most_marks m ≡ true → length t ≡ entries → TableOver m t
over m t marks long =
    let few = marks_most most_marks m marks in
    record { marks = omega (arith, few); long = omega (arith, long, boxes_within m few) }

-- each table of a sheet
pub sheet_over : (s : Sheet) → Long entries s → marks_ok most_marks s.marks ≡ true → (t : Table) → TableOver s.marks (kept t s)
sheet_over s long marks t = over s.marks (kept t s) marks (long t)
