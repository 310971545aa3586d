-- Marks and amounts in range.
use Prim.Native.Nat.{ℕ, ◌^◌, ◌≤◌}
use mathlib.Core.Path.{◌≡◌}
use mathlib.Core.Bool.{true}
use native.Mathlib.Nat.{pow-le-pow_right}
use native.Mathlib.Omega.{arith}
use lib.Dec.{leb}
use borrow.Author.Tests.{leb-true}
use Rattle.ground.proofs.Cases.{and_left, and_right}
use Rattle.sheet.specs.Limits.{marks_ok, amount_ok, most_marks, entries}

pub marks_most : (most m : ℕ) → marks_ok most m ≡ true → m ≤ most
unfolding marks_ok
marks_most most m e = leb-true m most (and_right (leb 1 m) (leb m most) e)

pub some_marks : (most m : ℕ) → marks_ok most m ≡ true → 1 ≤ m
unfolding marks_ok
some_marks most m e = leb-true 1 m (and_left (leb 1 m) (leb m most) e)

-- a sheet's tables have an entry for each box
pub boxes_fit : (m : ℕ) → marks_ok most_marks m ≡ true → 3 ^ m ≤ entries
boxes_fit m e = pow-le-pow_right {n = 3} (omega arith) {i = m} {j = 5} (marks_most most_marks m e)

pub amount_some : (d : ℕ) → amount_ok d ≡ true → 1 ≤ d
unfolding amount_ok
amount_some d e = leb-true 1 d (and_left (leb 1 d) (leb d 35999) e)

pub amount_most : (d : ℕ) → amount_ok d ≡ true → d ≤ 35999
unfolding amount_ok
amount_most d e = leb-true d 35999 (and_right (leb 1 d) (leb d 35999) e)
