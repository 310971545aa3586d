-- By a certificate every list has more than k boxes, or the lists of k boxes have so much to spare.
use mathlib.Core.Bool.{Bool}
use mathlib.Core.List.{List}
use Prim.Native.Nat.{ℕ, ◌+◌, ◌-◌, ◌*◌, ◌<◌, ◌≤◌}
use native.Mathlib.Nat.{mul-le-mul_right}
use native.Mathlib.Omega.{arith}
use lib.ListN.{length}
use Rattle.ground.proofs.Cases.{below_or}
use Rattle.lists.specs.Lists.{AtLeast}
use Rattle.costs.specs.Costs.{whole, Certified}
use Rattle.seek.specs.Steps.{Spare}

module _ (m : ℕ) (costs : List ℕ) (need room : ℕ → Bool) (k p q : ℕ) (z : Certified m costs need room p q) where
  pub too_few : k * whole + q < p → AtLeast m need room (k + 1)
  too_few h l f = below_or k (length l) (λ g. omega arith)
      (λ g. absurd (omega (arith, z.cost l f, mul-le-mul_right whole g, h)))

  pub to_spare : p ≤ k * whole + q → Spare m costs need room k (k * whole + q - p)
  to_spare h l f g = omega (arith, z.cost l f, mul-le-mul_right whole g, h)
