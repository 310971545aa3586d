-- The highest combination of m + 1 marks is in the last of 2 ^ m pairs; without a mark there is one combination.
use Prim.Native.Nat.{ℕ, zero, suc, ◌+◌, ◌-◌, ◌/◌, ◌^◌}
use mathlib.Core.Path.{◌≡◌}
use native.Mathlib.Nat.{pow-suc}
use native.Mathlib.Omega.{arith}
use lib.Pow.{pow_pos}
use Rattle.lists.specs.Lists.{most_lines}
use Rattle.lists.proofs.most_lines.Goals as goal

pairs : (m : ℕ) → (2 ^ m - 1) / 2 + 1 ≡ most_lines m
pairs zero = omega arith
pairs (suc m) = let e : suc m - 1 ≡ m = omega arith in rw e (omega (arith, pow-suc 2 m, pow_pos m))

pub overflow_sub-top : goal.overflow_sub-top
overflow_sub-top c = omega (arith, pow_pos c.args.m)

pub returns : goal.returns
returns c = rw c.power2-top.ensures.0 (pairs _)
