-- The calls that change a sheet: the number of 01's table, by its order of tests read top down, and the sheet that is left.
-- Largest marks are a parameter.
use Rattle.std.specs.Prelude.{ℕ, ◌+◌, ◌-◌, ◌^◌, Bool, true, false, not, cond, ◌&&◌, List, leb, ltb, eqb}
use Rattle.boxes.specs.Boxes.{free_count}
use Rattle.tables.specs.declared.Shift.{Shift}
use Rattle.tables.specs.declared.Shift.TheVariants.{Stays, Up, Down}
use Rattle.tables.specs.Tables.{entry, moved, fits_shifted, touched}
use Rattle.profiles.specs.Profiles.{settles}
use Rattle.classes.specs.Standings.{is_either, outs, eithers, tells}
use Rattle.classes.specs.declared.Standing.{Standing}
use Rattle.classes.specs.declared.Standing.TheVariants.{Either}
use Rattle.sheet.specs.Limits.{marks_ok, amount_ok, most_held}
use Rattle.sheet.specs.Record.{Table, outside_counts, either_counts, held_seconds, sheet_with}
use Rattle.sheet.specs.Sound.{own_in}
use Rattle.sheet.specs.declared.Sheet.{Sheet}
use Rattle.sheet.specs.Told.{Answer}
use Rattle.changes.specs.declared.Call.{Call}
use Rattle.changes.specs.declared.Call.TheVariants.{Change, Receive, Withdraw}
use Rattle.changes.specs.declared.Move.{Move}

-- A call is a move at one combination: in the boxes that contain it each table stays, or has some more, or some less.

-- from x to y
abbrev pub between : ℕ → ℕ → Shift
between x y = cond (ltb x y) (Up (y - x)) (cond (ltb y x) (Down (x - y)) Stays)

-- a class change takes the own counts o and e of the combination to those of the new standing
abbrev pub change_move : (o e : ℕ) → Standing → ℕ → Move
change_move o e to c = record { at = c; outside = between o (outs to); either = between e (eithers to); held = Stays }

-- a receipt (true) of d seconds is so many more, a withdrawal (false) so many less
abbrev pub amount_shift : Bool → ℕ → Shift
amount_shift more d = cond more (Up d) (Down d)

abbrev pub amount_move : Bool → ℕ → ℕ → Move
amount_move more c d = record { at = c; outside = Stays; either = Stays; held = amount_shift more d }

abbrev pub move_of : Sheet → Call → Move
move_of s (Change to c) = change_move (own_in outside_counts s c) (own_in either_counts s c) to c
move_of s (Receive c d) = amount_move true c d
move_of s (Withdraw c d) = amount_move false c d

abbrev pub shift_in : Table → Move → Shift
shift_in outside_counts v = v.outside
shift_in either_counts v = v.either
shift_in held_seconds v = v.held

abbrev pub moved_sheet : Move → Sheet → Sheet
moved_sheet v s =
    sheet_with s.marks s.profile (moved s.marks v.at v.outside s.outside) (moved s.marks v.at v.either s.either)
    (moved s.marks v.at v.held s.held)

-- a class change

-- after the move each touched count of a table is 0 to 2^f, for f free marks
unfoldable pub fits_count : ℕ → Shift → List ℕ → ℕ → Bool
fits_count m by t b = fits_shifted by (2 ^ free_count m b) (entry t b)

-- both counts of each touched box are judged, also the one that does not move
abbrev pub counts_fit : Standing → Sheet → ℕ → Bool
counts_fit to s c =
    touched s.marks c (fits_count s.marks (between (own_in outside_counts s c) (outs to)) s.outside)
    && touched s.marks c (fits_count s.marks (between (own_in either_counts s c) (eithers to)) s.either)

-- the profile is asked before the own numbers
unfoldable pub change_no : ℕ → Standing → Sheet → ℕ → ℕ
change_no most to s c =
    cond (not (marks_ok most s.marks)) 7
    (cond (leb (2 ^ s.marks) c) 2 (cond (settles s.marks s.profile c) 12
    (cond (ltb 1 (own_in outside_counts s c + own_in either_counts s c)) 7
    (cond (tells to (own_in outside_counts s c) (own_in either_counts s c)) 3
    (cond (is_either to && ltb 0 (own_in held_seconds s c)) 12
    (cond (not (counts_fit to s c)) 7 0))))))

-- a receipt or a withdrawal

-- a receipt may take no touched entry above 4,000,000,000, and a withdrawal none below 0
unfoldable pub fits_amount : Bool → ℕ → List ℕ → ℕ → Bool
fits_amount more d t b = cond more (leb (entry t b + d) most_held) (leb d (entry t b))

-- a receipt asks whether the combination is either
unfoldable pub amount_no : ℕ → Bool → Sheet → ℕ → ℕ → ℕ
amount_no most more s c d =
    cond (not (marks_ok most s.marks)) 7
    (cond (leb (2 ^ s.marks) c) 2
    (cond (not (amount_ok d)) 4
    (cond (more && tells Either (own_in outside_counts s c) (own_in either_counts s c)) 12
    (cond (not (touched s.marks c (fits_amount more d s.held))) (cond more 8 9) 0))))

-- the number of a call on a sheet
abbrev pub number_on : ℕ → Sheet → Call → ℕ
number_on most s (Change to c) = change_no most to s c
number_on most s (Receive c d) = amount_no most true s c d
number_on most s (Withdraw c d) = amount_no most false s c d

-- a refused call leaves the sheet as it was
abbrev pub answered : ℕ → Sheet → Sheet → Answer
answered number old new = record { number = number; sheet = cond (eqb number 0) new old }

-- WHAT A CALL ANSWERS AND LEAVES
abbrev pub did_of : ℕ → Sheet → Call → Answer
did_of most s k = answered (number_on most s k) s (moved_sheet (move_of s k) s)
