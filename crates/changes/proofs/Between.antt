-- The shift from one number to another: it is some shift where they differ, and takes the one to the other.
use Prim.Native.Nat.{ℕ, ◌-◌, ◌<◌}
use mathlib.Core.Path.{◌≡◌, sym}
use native.Mathlib.Omega.{arith}
use borrow.Author.Tests.{lt-ltb, le-ltb}
use Rattle.ground.proofs.Cases.{below_or}
use Rattle.tables.specs.declared.Shift.{Shift}
use Rattle.tables.specs.declared.Shift.TheVariants.{Stays, Up, Down}
use Rattle.tables.specs.Tables.{Shifts}
use Rattle.changes.specs.Calls.{between}
use Rattle.changes.specs.Promises.{SomeShift}

pub by_between : (P : Shift → Type 0) (x y : ℕ) → (x < y → P (Up (y - x))) → (y < x → P (Down (x - y))) → (x ≡ y → P Stays) → P (between x y)
by_between P x y up down stays =
    below_or x y
    (λ l. rw (lt-ltb x y l) (up l))
    (λ l. below_or y x
    (λ k. rw (le-ltb x y l, lt-ltb y x k) (down k))
    (λ k. rw (le-ltb x y l, le-ltb y x k) (stays (omega arith))))

pub between_shifts : (x y : ℕ) → Shifts (between x y) x y
between_shifts x y = by_between (λ (s : Shift). Shifts s x y) x y (λ l. omega arith) (λ l. omega arith) (λ e. sym e)

pub between_some : (x y : ℕ) → SomeShift (between x y)
between_some x y = by_between SomeShift x y (λ l. omega arith) (λ l. omega arith) (λ e. tt)

pub between_moves : (x y : ℕ) → (x ≡ y → ⊥) → between x y ≡ Stays → ⊥
between_moves x y n =
    by_between (λ (s : Shift). s ≡ Stays → ⊥) x y
    (λ l e. let z : ◌≡◌ {A = ℕ} 0 1 = cc in omega arith)
    (λ l e. let z : ◌≡◌ {A = ℕ} 0 1 = cc in omega arith)
    (λ e. absurd (n e))
