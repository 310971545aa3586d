-- On a sheet worked out afresh the calls' tests of kept numbers come to tests of the record: of the touched entries the all-free box has the
-- most seconds and the single box the fewest, and counts that are right fit their boxes after any change of standing.
use Prim.Native.Nat.{ℕ, ◌+◌, ◌-◌, ◌^◌, ◌<◌, ◌≤◌}
use mathlib.Core.Path.{◌≡◌, refl, sym, ◌∙◌, ap, ap₂}
use mathlib.Core.Bool.{Bool, true, false, not, cond, ◌&&◌}
use native.Mathlib.Omega.{arith}
use lib.Dec.{leb, ltb}
use borrow.Author.Tests.{le-leb, lt-leb, leb-true, leb-false, eq-eqb, ne_eqb}
use Rattle.ground.proofs.Cases.{if, clash, below_or}
use Rattle.boxes.specs.Boxes.{contains, sum_in, single, all_free, free_count}
use Rattle.boxes.specs.Sums.{sum}
use Rattle.boxes.proofs.Boxes.{contains_box, contains-all, sum_in_term, sum_in-le-all, sum_in-all, sum_in_bound}
use Rattle.boxes.proofs.Choices.{through-contains}
use Rattle.tables.specs.declared.Shift.{Shift}
use Rattle.tables.specs.declared.Shift.TheVariants.{Stays, Up, Down}
use Rattle.tables.specs.Tables.{entry, own, afresh, fits_shifted, touched, Shifts}
use Rattle.tables.specs.Parts.{ShiftsAt}
use Rattle.tables.proofs.Entries.{afresh-entry, afresh_own}
use Rattle.tables.proofs.Shifts.{sum_shifts}
use Rattle.tables.proofs.Touched.{touched_at, touched_yes}
use Rattle.profiles.specs.Profiles.{settles}
use Rattle.classes.specs.Standings.{is, is_either, outs, eithers, tells}
use Rattle.classes.specs.declared.Standing.{Standing}
use Rattle.classes.specs.declared.Standing.TheVariants.{Either}
use Rattle.sheet.specs.Limits.{most_marks, marks_ok, amount_ok, most_held}
use Rattle.sheet.specs.Record.{Record, updated, outside_counts, either_counts, held_seconds, quantity, sheet_of}
use Rattle.sheet.specs.Sound.{own_in}
use Rattle.sheet.proofs.Kept.{adds_one, tells_is, times_total}
use Rattle.changes.specs.Calls.{between, fits_count, counts_fit, fits_amount, change_no, amount_no, number_on}
use Rattle.changes.specs.declared.Call.{Call}
use Rattle.changes.specs.declared.Call.TheVariants.{Change, Receive, Withdraw}
use Rattle.changes.proofs.Between.{between_shifts}
use Rattle.changes.proofs.Tests.{change_2, change_settled, change_3, change_12, change_0}
use Rattle.histories.specs.Histories.{number_of}

-- what a combination adds to either count

outs-le : (s : Standing) → outs s ≤ 1
outs-le s = omega (arith, adds_one s)

eithers-le : (s : Standing) → eithers s ≤ 1
eithers-le s = omega (arith, adds_one s)

-- a change of standing shifts what the combination adds, and nothing else
pub changed_shifts : (m c : ℕ) (add : Standing → ℕ) (standing : ℕ → Standing) (to : Standing)
    → ShiftsAt m c (between (add (standing c)) (add to)) (λ x. add (standing x)) (λ x. add (updated c to standing x))
changed_shifts m c add standing to = record {
  here = rw (eq-eqb c c refl) (between_shifts (add (standing c)) (add to));
  others = λ x l n. rw (ne_eqb x c n);
}

-- a number that fits afterwards fits shifted
fits_after : (by : Shift) (most x y : ℕ) → Shifts by x y → y ≤ most → fits_shifted by most x ≡ true
fits_after Stays most x y h l = le-leb x most (omega arith)
fits_after (Up d) most x y h l = le-leb (x + d) most (omega arith)
fits_after (Down d) most x y h l = rw (le-leb d x (omega arith)) (le-leb (x - d) most (omega arith))

module _ (n m : ℕ) (fits : 3 ^ m ≤ n) (c : ℕ) (low : c < 2 ^ m) where
  at : (f : ℕ → ℕ) (b : ℕ) → contains m b c ≡ true → entry (afresh n m f) b ≡ sum_in m b f
  at f b e = afresh-entry n m f b (omega (arith, contains_box m b c e))

  -- class changes: counts that are right fit after the move

  module _ (add : Standing → ℕ) (one : (s : Standing) → add s ≤ 1) (standing : ℕ → Standing) (to : Standing) where
    count_fits : (b : ℕ) → contains m b c ≡ true → fits_shifted (between (add (standing c)) (add to)) (2 ^ free_count m b) (entry (afresh n m (λ x. add (standing x))) b) ≡ true
    count_fits b e =
        let by = between (add (standing c)) (add to) in
        let moved = sum_shifts m c low b by _ _ (changed_shifts m c add standing to) e in
        let most = sum_in_bound m b 1 (λ x. add (updated c to standing x)) (contains_box m b c e) (λ x l. one (updated c to standing x)) in
        rw (at (λ x. add (standing x)) b e) (fits_after by (2 ^ free_count m b) _ _ moved (omega arith))

    counts_do_fit : touched m c (fits_count m (between (own m (afresh n m (λ x. add (standing x))) c) (add to)) (afresh n m (λ x. add (standing x)))) ≡ true
    unfolding fits_count
    counts_do_fit = rw (afresh_own n m (λ x. add (standing x)) fits c low) (touched_yes m c (fits_count m (between (add (standing c)) (add to)) (afresh n m (λ x. add (standing x)))) count_fits)

  -- receipts and withdrawals: the all-free box decides, or the single one

  receive_judged : (times : ℕ → ℕ) (d : ℕ) → touched m c (fits_amount true d (afresh n m times)) ≡ leb (sum (2 ^ m) times + d) most_held
  unfolding fits_amount
  receive_judged times d =
      let t = afresh n m times in
      if (leb (sum (2 ^ m) times + d) most_held)
      (λ y. touched_yes m c (fits_amount true d t) (λ b e.
      le-leb (entry t b + d) most_held (omega (arith, at times b e, sum_in-le-all m b times, sum_in-all m times, leb-true (sum (2 ^ m) times + d) most_held y))) ∙ sym y)
      (λ f. if (touched m c (fits_amount true d t))
      (λ y. clash (touched_at m c (fits_amount true d t) y (all_free m) (contains-all m c low))
      (lt-leb (entry t (all_free m) + d) most_held (omega (arith, times_total n m fits times, leb-false (sum (2 ^ m) times + d) most_held f))))
      (λ g. g ∙ sym f))

  withdraw_judged : (times : ℕ → ℕ) (d : ℕ) → touched m c (fits_amount false d (afresh n m times)) ≡ leb d (times c)
  unfolding fits_amount
  withdraw_judged times d =
      let t = afresh n m times in
      if (leb d (times c))
      (λ y. touched_yes m c (fits_amount false d t) (λ b e. le-leb d (entry t b) (omega (arith, at times b e, sum_in_term m b c times e, leb-true d (times c) y))) ∙ sym y)
      (λ f. if (touched m c (fits_amount false d t))
      (λ y. clash (touched_at m c (fits_amount false d t) y (single m c) (through-contains m c 0 low))
      (lt-leb d (entry t (single m c)) (omega (arith, afresh_own n m times fits c low, leb-false d (times c) f))))
      (λ g. g ∙ sym f))

  amount_judged : (more : Bool) (times : ℕ → ℕ) (d : ℕ) → touched m c (fits_amount more d (afresh n m times)) ≡ cond more (leb (sum (2 ^ m) times + d) most_held) (leb d (times c))
  amount_judged true times d = receive_judged times d
  amount_judged false times d = withdraw_judged times d

-- the numbers, from the record alone

module _ (n : ℕ) (r : Record) (fits : 3 ^ r.marks ≤ n) (marks : marks_ok most_marks r.marks ≡ true) (c : ℕ) where
  -- the own numbers of a combination are those of the record
  module _ (low : c < 2 ^ r.marks) where
    pub own_outs : own_in outside_counts (sheet_of n r) c ≡ outs (r.standing c)
    own_outs = afresh_own n r.marks (quantity outside_counts r) fits c low

    pub own_eithers : own_in either_counts (sheet_of n r) c ≡ eithers (r.standing c)
    own_eithers = afresh_own n r.marks (quantity either_counts r) fits c low

    own_held : own_in held_seconds (sheet_of n r) c ≡ r.times c
    own_held = afresh_own n r.marks r.times fits c low

    told : (to : Standing) → tells to (own_in outside_counts (sheet_of n r) c) (own_in either_counts (sheet_of n r) c) ≡ is to (r.standing c)
    told to = ap₂ (tells to) own_outs own_eithers ∙ tells_is to (r.standing c)

    both_fit : (to : Standing) → counts_fit to (sheet_of n r) c ≡ true
    both_fit to = rw (counts_do_fit n r.marks fits c low outs outs-le r.standing to, counts_do_fit n r.marks fits c low eithers eithers-le r.standing to)

    class_below : (to : Standing) → change_no most_marks to (sheet_of n r) c
        ≡ cond (settles r.marks r.profile c) 12 (cond (is to (r.standing c)) 3 (cond (is_either to && ltb 0 (r.times c)) 12 0))
    class_below to =
        let s = sheet_of n r in
        let one : own_in outside_counts s c + own_in either_counts s c ≤ 1 = omega (arith, own_outs, own_eithers, adds_one (r.standing c)) in
        let kept : (is_either to && ltb 0 (own_in held_seconds s c)) ≡ (is_either to && ltb 0 (r.times c)) = ap (λ (x : ℕ). is_either to && ltb 0 x) own_held in
        if (settles r.marks r.profile c)
        (λ g. change_settled most_marks to s c marks low g ∙ rw g)
        (λ g. if (is to (r.standing c))
        (λ e. change_3 most_marks to s c marks low g one (told to ∙ e) ∙ rw (g, e))
        (λ e. if (is_either to && ltb 0 (r.times c))
        (λ f. change_12 most_marks to s c marks low g one (told to ∙ e) (kept ∙ f) ∙ rw (g, e, f))
        (λ f. change_0 most_marks to s c marks low g one (told to ∙ e) (kept ∙ f) (both_fit to) ∙ rw (g, e, f))))

  class_number : (to : Standing) → change_no most_marks to (sheet_of n r) c
      ≡ cond (leb (2 ^ r.marks) c) 2
      (cond (settles r.marks r.profile c) 12 (cond (is to (r.standing c)) 3 (cond (is_either to && ltb 0 (r.times c)) 12 0)))
  class_number to =
      below_or c (2 ^ r.marks)
      (λ low. class_below low to ∙ rw (lt-leb (2 ^ r.marks) c low))
      (λ l. change_2 most_marks to (sheet_of n r) c marks l ∙ rw (le-leb (2 ^ r.marks) c l))

  amount_number : (more : Bool) (d : ℕ) → amount_no most_marks more (sheet_of n r) c d
      ≡ cond (leb (2 ^ r.marks) c) 2
      (cond (not (amount_ok d)) 4
      (cond (more && is_either (r.standing c)) 12 (cond (not (cond more (leb (sum (2 ^ r.marks) r.times + d) most_held) (leb d (r.times c)))) (cond more 8 9) 0)))
  unfolding amount_no
  amount_number more d =
      below_or c (2 ^ r.marks)
      (λ low. rw (marks, told low Either, amount_judged n r.marks fits c low more r.times d))
      (λ l. rw (marks, le-leb (2 ^ r.marks) c l))

-- THE NUMBER OF A CALL on the sheet worked out afresh
pub number_afresh : (n : ℕ) (r : Record) → 3 ^ r.marks ≤ n → marks_ok most_marks r.marks ≡ true → (k : Call) → number_on most_marks (sheet_of n r) k ≡ number_of r k
number_afresh n r fits marks (Change to c) = class_number n r fits marks c to
number_afresh n r fits marks (Receive c d) = amount_number n r fits marks c true d
number_afresh n r fits marks (Withdraw c d) = amount_number n r fits marks c false d
