-- Demand 3. A history is a record of marks, standings and times, and the calls made since; what it comes to is worked out from the record and the
-- calls alone, never from a kept number.
use Rattle.std.specs.Prelude.{ℕ, ◌+◌, ◌-◌, ◌^◌, ◌<◌, ◌≤◌, ◌≡◌, true, false, not, cond, ◌&&◌, List, [], ◌∷◌, eqb, leb, ltb}
use Rattle.boxes.specs.Sums.{sum, only}
use Rattle.profiles.specs.Profiles.{profile_ok, settles}
use Rattle.classes.specs.Standings.{is, is_out, is_either}
use Rattle.sheet.specs.Limits.{most_marks, most_held, marks_ok, amount_ok}
use Rattle.sheet.specs.Record.{Record, with_standing, with_times, updated, in_class, not_out, Obeys}
use Rattle.sheet.specs.declared.Sheet.{Sheet}
use Rattle.sheet.specs.Told.{Value}
use Rattle.changes.specs.Calls.{did_of}
use Rattle.changes.specs.declared.Call.{Call}
use Rattle.changes.specs.declared.Call.TheVariants.{Change, Receive, Withdraw}
use Rattle.listing.specs.Listing.{Laid}

-- a record that a sheet can have: 1 to 5 marks, a profile that is not faulty and that is obeyed, every number that is no combination out, at most
-- 4,000,000,000 seconds, and none under an either combination
pub record Good (r : Record) : Type 0 where
  pub marks : marks_ok most_marks r.marks ≡ true
  pub profile : profile_ok r.marks r.profile ≡ true
  pub obeys : Obeys r
  pub standing : (c : ℕ) → is_out (r.standing c) ≡ false → c < 2 ^ r.marks
  pub times : sum (2 ^ r.marks) r.times ≤ most_held
  pub apart : (c : ℕ) → is_either (r.standing c) ≡ true → r.times c ≡ 0

-- the number of a call, from the record alone: 7 never comes
abbrev pub number_of : Record → Call → ℕ
number_of r (Change to c) =
    cond (leb (2 ^ r.marks) c) 2
    (cond (settles r.marks r.profile c) 12
    (cond (is to (r.standing c)) 3
    (cond (is_either to && ltb 0 (r.times c)) 12 0)))
number_of r (Receive c d) =
    cond (leb (2 ^ r.marks) c) 2
    (cond (not (amount_ok d)) 4
    (cond (is_either (r.standing c)) 12
    (cond (not (leb (sum (2 ^ r.marks) r.times + d) most_held)) 8 0)))
number_of r (Withdraw c d) = cond (leb (2 ^ r.marks) c) 2 (cond (not (amount_ok d)) 4 (cond (not (leb d (r.times c))) 9 0))

-- the record after an accepted call
abbrev pub accepted : Record → Call → Record
accepted r (Change to c) = with_standing (updated c to r.standing) r
accepted r (Receive c d) = with_times (λ x. r.times x + only (eqb x c) d) r
accepted r (Withdraw c d) = with_times (λ x. r.times x - only (eqb x c) d) r

-- and after any call: a refused one leaves it
abbrev pub after : Record → Call → Record
after r k = cond (eqb (number_of r k) 0) (accepted r k) r

-- a sequence of steps, refused ones among them: what it leads to, each step by `next`, and the numbers given on the way

unfoldable pub after_all : {S K : Type 0} → (S → K → S) → S → List K → S
after_all next s [] = s
after_all next s (k ∷ ks) = after_all next (next s k) ks

unfoldable pub numbers_of : {S K : Type 0} → (S → K → ℕ) → (S → K → S) → S → List K → List ℕ
numbers_of number next s [] = []
numbers_of number next s (k ∷ ks) = number s k ∷ numbers_of number next (next s k) ks

-- what the program does in one call: the sheet that is left, and the number
abbrev pub sheet_after : Sheet → Call → Sheet
sheet_after s k = (did_of most_marks s k).sheet

abbrev pub number_given : Sheet → Call → ℕ
number_given s k = (did_of most_marks s k).number

-- the list of the record in a lent area: the number 0, and how many boxes the list has that is laid there
abbrev pub Given : Record → List ℕ → Value → List ℕ → Type 0
Given r area v later = (v.number ≡ 0) × Laid r.marks (in_class r) (not_out r) area v.value later
