-- The order of tests of each call: what is answered where the tests before have passed, and what the answer 0 tells.
use Prim.Native.Nat.{ℕ, ◌+◌, ◌*◌, ◌-◌, ◌^◌, ◌<◌, ◌≤◌}
use mathlib.Core.Path.{◌≡◌, refl, sym, ◌∙◌, ap}
use mathlib.Core.Bool.{Bool, true, false, cond, ◌&&◌, and-true}
use mathlib.Core.List.{List}
use native.Mathlib.Nat.{pow-le-pow_right, zero-mul}
use native.Mathlib.Omega.{arith}
use lib.Count.{ones-le}
use lib.Dec.{leb, ltb}
use borrow.Author.Tests.{le-leb, lt-leb, le-ltb, lt-ltb, leb-true, eq-eqb}
use Rattle.ground.proofs.Cases.{if, clash, below_or, same_or, and_left, and_right}
use Rattle.boxes.specs.Boxes.{contains, free_count}
use Rattle.boxes.proofs.Choices.{free_marks, free_marks_lt, free_count_ones}
use Rattle.tables.specs.declared.Shift.{Shift}
use Rattle.tables.specs.declared.Shift.TheVariants.{Stays, Up, Down}
use Rattle.tables.specs.Tables.{entry, fits_shifted, touched}
use Rattle.profiles.specs.Profiles.{settles}
use Rattle.tables.specs.Parts.{Bears, AllBear, fits_moved}
use Rattle.tables.proofs.Touched.{touched_at, touched_ext}
use Rattle.classes.specs.Standings.{is_either, outs, eithers, tells}
use Rattle.classes.specs.declared.Standing.{Standing}
use Rattle.classes.specs.declared.Standing.TheVariants.{Either}
use Rattle.sheet.specs.Limits.{marks_ok, amount_ok, most_held, most_marks}
use Rattle.sheet.specs.Record.{Table, outside_counts, either_counts, held_seconds, kept}
use Rattle.sheet.specs.Sound.{own_in}
use Rattle.sheet.specs.declared.Sheet.{Sheet}
use Rattle.sheet.proofs.Limits.{marks_most, amount_some}
use Rattle.changes.specs.Calls.{amount_shift, amount_move, move_of, shift_in, fits_count, counts_fit, fits_amount, change_no, amount_no, number_on}
use Rattle.changes.specs.Promises.{SomeShift}
use Rattle.changes.specs.Parts.{most_after, has_room, Accepted, Unknown}
use Rattle.refusals.specs.Numbers.{number_of}
use Rattle.refusals.specs.declared.Refusal.{Refusal}
use Rattle.changes.specs.declared.Call.{Call}
use Rattle.changes.specs.declared.Call.TheVariants.{Change, Receive, Withdraw}
use Rattle.changes.proofs.Between.{between_some, between_moves}

-- the first two tests, of every call

pub unknown_change : {s : Sheet} {c : ℕ} {e : Refusal} (to : Standing) → Unknown s c e → number_of e ≡ change_no most_marks to s c
unfolding change_no
unknown_change {s} {c} to (Unknown.spoiled e) = rw e refl
unknown_change {s} {c} to (Unknown.beyond e l) = rw (e, le-leb (2 ^ s.marks) c l) refl

pub unknown_amount : {s : Sheet} {c : ℕ} {e : Refusal} (more : Bool) (d : ℕ) → Unknown s c e → number_of e ≡ amount_no most_marks more s c d
unfolding amount_no
unknown_amount {s} {c} more d (Unknown.spoiled e) = rw e refl
unknown_amount {s} {c} more d (Unknown.beyond e l) = rw (e, le-leb (2 ^ s.marks) c l) refl

-- class changes

module _ (most : ℕ) (to : Standing) (s : Sheet) (c : ℕ) where
  pub change_7 : marks_ok most s.marks ≡ false → change_no most to s c ≡ 7
  unfolding change_no
  change_7 e = rw e

  module _ (marks : marks_ok most s.marks ≡ true) where
    pub change_2 : 2 ^ s.marks ≤ c → change_no most to s c ≡ 2
    unfolding change_no
    change_2 l = rw (marks, le-leb (2 ^ s.marks) c l)

    module _ (low : c < 2 ^ s.marks) where
      pub change_settled : settles s.marks s.profile c ≡ true → change_no most to s c ≡ 12
      unfolding change_no
      change_settled e = rw (marks, lt-leb (2 ^ s.marks) c low, e)

      module _ (free : settles s.marks s.profile c ≡ false) where
        pub change_own : 1 < own_in outside_counts s c + own_in either_counts s c → change_no most to s c ≡ 7
        unfolding change_no
        change_own l = rw (marks, lt-leb (2 ^ s.marks) c low, free, lt-ltb 1 (own_in outside_counts s c + own_in either_counts s c) l)

        module _ (one : own_in outside_counts s c + own_in either_counts s c ≤ 1) where
          pub change_3 : tells to (own_in outside_counts s c) (own_in either_counts s c) ≡ true → change_no most to s c ≡ 3
          unfolding change_no
          change_3 e = rw (marks, lt-leb (2 ^ s.marks) c low, free, le-ltb 1 (own_in outside_counts s c + own_in either_counts s c) one, e)

          module _ (other : tells to (own_in outside_counts s c) (own_in either_counts s c) ≡ false) where
            pub change_12 : (is_either to && ltb 0 (own_in held_seconds s c)) ≡ true → change_no most to s c ≡ 12
            unfolding change_no
            change_12 e = rw (marks, lt-leb (2 ^ s.marks) c low, free, le-ltb 1 (own_in outside_counts s c + own_in either_counts s c) one, other, e)

            module _ (apart : (is_either to && ltb 0 (own_in held_seconds s c)) ≡ false) where
              pub change_count : counts_fit to s c ≡ false → change_no most to s c ≡ 7
              unfolding change_no
              change_count e = rw (marks, lt-leb (2 ^ s.marks) c low, free, le-ltb 1 (own_in outside_counts s c + own_in either_counts s c) one, other, apart, e)

              pub change_0 : counts_fit to s c ≡ true → change_no most to s c ≡ 0
              unfolding change_no
              change_0 e = rw (marks, lt-leb (2 ^ s.marks) c low, free, le-ltb 1 (own_in outside_counts s c + own_in either_counts s c) one, other, apart, e)

-- an accepted class change
pub record ChangePassed (most : ℕ) (to : Standing) (s : Sheet) (c : ℕ) : Type 0 where
  pub marks : marks_ok most s.marks ≡ true
  pub low : c < 2 ^ s.marks
  pub free : settles s.marks s.profile c ≡ false
  pub one : own_in outside_counts s c + own_in either_counts s c ≤ 1
  pub other : tells to (own_in outside_counts s c) (own_in either_counts s c) ≡ false
  pub apart : (is_either to && ltb 0 (own_in held_seconds s c)) ≡ false
  pub fits : counts_fit to s c ≡ true

pub changes : (most : ℕ) (to : Standing) (s : Sheet) (c : ℕ) → change_no most to s c ≡ 0 → ChangePassed most to s c
changes most to s c z =
    if (marks_ok most s.marks)
    (λ marks. below_or c (2 ^ s.marks)
    (λ low. if (settles s.marks s.profile c)
    (λ e. absurd (omega (arith, change_settled most to s c marks low e)))
    (λ free. below_or 1 (own_in outside_counts s c + own_in either_counts s c)
    (λ l. absurd (omega (arith, change_own most to s c marks low free l)))
    (λ one. if (tells to (own_in outside_counts s c) (own_in either_counts s c))
    (λ e. absurd (omega (arith, change_3 most to s c marks low free one e)))
    (λ other. if (is_either to && ltb 0 (own_in held_seconds s c))
    (λ e. absurd (omega (arith, change_12 most to s c marks low free one other e)))
    (λ apart. if (counts_fit to s c)
    (λ fits. record { marks = marks; low = low; free = free; one = one; other = other; apart = apart; fits = fits })
    (λ e. absurd (omega (arith, change_count most to s c marks low free one other apart e))))))))
    (λ l. absurd (omega (arith, change_2 most to s c marks l))))
    (λ e. absurd (omega (arith, change_7 most to s c e)))

-- receipts and withdrawals

module _ (most : ℕ) (more : Bool) (s : Sheet) (c d : ℕ) where
  pub amount_7 : marks_ok most s.marks ≡ false → amount_no most more s c d ≡ 7
  unfolding amount_no
  amount_7 e = rw e

  module _ (marks : marks_ok most s.marks ≡ true) where
    pub amount_2 : 2 ^ s.marks ≤ c → amount_no most more s c d ≡ 2
    unfolding amount_no
    amount_2 l = rw (marks, le-leb (2 ^ s.marks) c l)

    module _ (low : c < 2 ^ s.marks) where
      pub amount_4 : amount_ok d ≡ false → amount_no most more s c d ≡ 4
      unfolding amount_no
      amount_4 e = rw (marks, lt-leb (2 ^ s.marks) c low, e)

      module _ (amount : amount_ok d ≡ true) where
        pub amount_12 : (more && tells Either (own_in outside_counts s c) (own_in either_counts s c)) ≡ true → amount_no most more s c d ≡ 12
        unfolding amount_no
        amount_12 e = rw (marks, lt-leb (2 ^ s.marks) c low, amount, e)

        module _ (standing : (more && tells Either (own_in outside_counts s c) (own_in either_counts s c)) ≡ false) where
          pub amount_last : touched s.marks c (fits_amount more d s.held) ≡ false → amount_no most more s c d ≡ cond more 8 9
          unfolding amount_no
          amount_last e = rw (marks, lt-leb (2 ^ s.marks) c low, amount, standing, e)

          pub amount_0 : touched s.marks c (fits_amount more d s.held) ≡ true → amount_no most more s c d ≡ 0
          unfolding amount_no
          amount_0 e = rw (marks, lt-leb (2 ^ s.marks) c low, amount, standing, e)

-- an accepted receipt or withdrawal
pub record AmountPassed (most : ℕ) (more : Bool) (s : Sheet) (c d : ℕ) : Type 0 where
  pub marks : marks_ok most s.marks ≡ true
  pub low : c < 2 ^ s.marks
  pub amount : amount_ok d ≡ true
  pub standing : (more && tells Either (own_in outside_counts s c) (own_in either_counts s c)) ≡ false
  pub fits : touched s.marks c (fits_amount more d s.held) ≡ true

eight_or_nine : (more : Bool) → ◌≡◌ {A = ℕ} (cond more 8 9) 0 → ⊥
eight_or_nine true e = omega arith
eight_or_nine false e = omega arith

pub amounts : (most : ℕ) (more : Bool) (s : Sheet) (c d : ℕ) → amount_no most more s c d ≡ 0 → AmountPassed most more s c d
amounts most more s c d z =
    if (marks_ok most s.marks)
    (λ marks. below_or c (2 ^ s.marks)
    (λ low. if (amount_ok d)
    (λ amount. if (more && tells Either (own_in outside_counts s c) (own_in either_counts s c))
    (λ e. absurd (omega (arith, amount_12 most more s c d marks low amount e)))
    (λ standing. if (touched s.marks c (fits_amount more d s.held))
    (λ fits. record { marks = marks; low = low; amount = amount; standing = standing; fits = fits })
    (λ e. absurd (eight_or_nine more (sym (amount_last most more s c d marks low amount standing e) ∙ z)))))
    (λ e. absurd (omega (arith, amount_4 most more s c d marks low e))))
    (λ l. absurd (omega (arith, amount_2 most more s c d marks l))))
    (λ e. absurd (omega (arith, amount_7 most more s c d e)))

-- what the code asks of the touched entries is what the definitions ask

pub count_bounds : (m : ℕ) (by : Shift) (t : List ℕ) (b : ℕ) → fits_moved m by t 0 1 b ≡ fits_count m by t b
unfolding fits_count
count_bounds m by t b =
    let top : 0 + 1 * 2 ^ free_count m b ≡ 2 ^ free_count m b = omega arith in
    ap (λ (z : ℕ). fits_shifted by z (entry t b)) top

room_bounds : (m : ℕ) (by : Shift) (t : List ℕ) (b : ℕ) → entry t b < 2 ^ 32 → fits_moved m by t (most_after by) 0 b ≡ has_room by t b
room_bounds m Stays t b l = le-leb (entry t b) (4294967295 + 0 * 2 ^ free_count m b) (omega (arith, zero-mul (2 ^ free_count m b)))
room_bounds m (Up d) t b l =
    let top : most_held + 0 * 2 ^ free_count m b ≡ most_held = omega (arith, zero-mul (2 ^ free_count m b)) in
    ap (leb (entry t b + d)) top
room_bounds m (Down d) t b l =
    rw (le-leb (entry t b - d) (4294967295 + 0 * 2 ^ free_count m b) (omega (arith, zero-mul (2 ^ free_count m b)))) (and-true (leb d (entry t b)))

-- so what the code answers of a table is what the definitions say

pub count_judged : (m c : ℕ) (by : Shift) (t : List ℕ) {r : Bool} → r ≡ touched m c (fits_moved m by t 0 1) → r ≡ touched m c (fits_count m by t)
count_judged m c by t e = e ∙ touched_ext m c _ _ (λ b h. count_bounds m by t b)

pub room_judged : (m c : ℕ) (by : Shift) (t : List ℕ) {r : Bool} → ((b : ℕ) → entry t b < 2 ^ 32)
    → r ≡ touched m c (fits_moved m by t (most_after by) 0) → r ≡ touched m c (has_room by t)
room_judged m c by t small e = e ∙ touched_ext m c _ _ (λ b h. room_bounds m by t b (small b))

amount_fits_by : (more : Bool) (d : ℕ) (t : List ℕ) (b : ℕ) → has_room (amount_shift more d) t b ≡ fits_amount more d t b
unfolding fits_amount
amount_fits_by true d t b = refl
amount_fits_by false d t b = refl

pub amount_bounds : (m : ℕ) (more : Bool) (d : ℕ) (t : List ℕ) (b : ℕ) → entry t b < 2 ^ 32
    → fits_moved m (amount_shift more d) t (cond more most_held 4294967295) 0 b ≡ fits_amount more d t b
amount_bounds m true d t b l = room_bounds m (Up d) t b l ∙ amount_fits_by true d t b
amount_bounds m false d t b l = room_bounds m (Down d) t b l ∙ amount_fits_by false d t b

pub amount_judged : (m c : ℕ) (more : Bool) (d : ℕ) (t : List ℕ) → touched m c (has_room (amount_shift more d) t) ≡ touched m c (fits_amount more d t)
amount_judged m c more d t = touched_ext m c _ _ (λ b h. amount_fits_by more d t b)

-- a box of a sheet has at most 32 combinations
pub size_fits : (m b : ℕ) → m ≤ 5 → 2 ^ free_count m b ≤ 32
size_fits m b l =
    let f : free_count m b ≤ m = omega (arith, free_count_ones m b, ones-le m (free_marks m b) (free_marks_lt m b)) in
    pow-le-pow_right {n = 2} (omega arith) {i = free_count m b} {j = 5} (omega arith)

-- what the touched entries of an accepted call have room for

count_bears : (m : ℕ) (by : Shift) (x b : ℕ) → m ≤ 5 → fits_shifted by (2 ^ free_count m b) x ≡ true → Bears by x
count_bears m Stays x b l e = tt
count_bears m (Up d) x b l e = omega (arith, leb-true (x + d) (2 ^ free_count m b) e, size_fits m b l)
count_bears m (Down d) x b l e = leb-true d x (and_left _ _ e)

amount_bears : (more : Bool) (d x : ℕ) → cond more (leb (x + d) most_held) (leb d x) ≡ true → Bears (amount_shift more d) x
amount_bears true d x e = omega (arith, leb-true (x + d) most_held e)
amount_bears false d x e = leb-true d x e

counts_bear : (m c : ℕ) (by : Shift) (t : List ℕ) → m ≤ 5 → touched m c (fits_count m by t) ≡ true → AllBear m c by t
unfolding fits_count
counts_bear m c by t l e b h = count_bears m by (entry t b) b l (touched_at m c (fits_count m by t) e b h)

pub amount_fits : (m c : ℕ) (more : Bool) (d : ℕ) (t : List ℕ) → touched m c (fits_amount more d t) ≡ true → (b : ℕ) → contains m b c ≡ true
    → cond more (leb (entry t b + d) most_held) (leb d (entry t b)) ≡ true
unfolding fits_amount
amount_fits m c more d t e b h = touched_at m c (fits_amount more d t) e b h

amount_more : (more : Bool) (d : ℕ) → 1 ≤ d → SomeShift (amount_shift more d)
amount_more true d l = l
amount_more false d l = l

amount_moves : (more : Bool) (d : ℕ) → amount_shift more d ≡ Stays → ⊥
amount_moves true d e = let z : ◌≡◌ {A = ℕ} 0 1 = cc in omega arith
amount_moves false d e = let z : ◌≡◌ {A = ℕ} 0 1 = cc in omega arith

-- an accepted call makes an accepted move

module _ (s : Sheet) (to : Standing) (c : ℕ) (w : ChangePassed most_marks to s c) where
  change_bear : (t : Table) → AllBear s.marks c (shift_in t (move_of s (Change to c))) (kept t s)
  change_bear outside_counts =
      counts_bear s.marks c (move_of s (Change to c)).outside s.outside (marks_most most_marks _ w.marks) (and_left _ _ w.fits)
  change_bear either_counts =
      counts_bear s.marks c (move_of s (Change to c)).either s.either (marks_most most_marks _ w.marks)
      (and_right (touched s.marks c (fits_count s.marks (move_of s (Change to c)).outside s.outside)) _ w.fits)
  change_bear held_seconds = λ b h. tt

  change_shifts : (t : Table) → SomeShift (shift_in t (move_of s (Change to c)))
  change_shifts outside_counts = between_some (own_in outside_counts s c) (outs to)
  change_shifts either_counts = between_some (own_in either_counts s c) (eithers to)
  change_shifts held_seconds = tt

  -- one of the counts moves: both stay only for the standing that is told already
  change_moves : (t : Table) × (shift_in t (move_of s (Change to c)) ≡ Stays → ⊥)
  change_moves =
      same_or (own_in outside_counts s c) (outs to)
      (λ p. (either_counts, between_moves (own_in either_counts s c) (eithers to) (λ q. clash (rw (eq-eqb _ _ p, eq-eqb _ _ q)) w.other)))
      (λ n. (outside_counts, between_moves (own_in outside_counts s c) (outs to) n))

  change_accepted : Accepted s (move_of s (Change to c))
  change_accepted = record { marks = w.marks; low = w.low; bear = change_bear; some = change_shifts; moves = change_moves }

module _ (s : Sheet) (more : Bool) (c d : ℕ) (w : AmountPassed most_marks more s c d) where
  amount_bear : (t : Table) → AllBear s.marks c (shift_in t (amount_move more c d)) (kept t s)
  amount_bear outside_counts = λ b h. tt
  amount_bear either_counts = λ b h. tt
  amount_bear held_seconds = λ b h. amount_bears more d (entry s.held b) (amount_fits s.marks c more d s.held w.fits b h)

  amount_shifts : (t : Table) → SomeShift (shift_in t (amount_move more c d))
  amount_shifts outside_counts = tt
  amount_shifts either_counts = tt
  amount_shifts held_seconds = amount_more more d (amount_some d w.amount)

  amount_accepted : Accepted s (amount_move more c d)
  amount_accepted = record { marks = w.marks; low = w.low; bear = amount_bear; some = amount_shifts; moves = (held_seconds, amount_moves more d) }

pub accepts : (s : Sheet) (k : Call) → number_on most_marks s k ≡ 0 → Accepted s (move_of s k)
accepts s (Change to c) z = change_accepted s to c (changes most_marks to s c z)
accepts s (Receive c d) z = amount_accepted s true c d (amounts most_marks true s c d z)
accepts s (Withdraw c d) z = amount_accepted s false c d (amounts most_marks false s c d z)
