-- The bits below c are those of the zeros.
use Prim.Native.Nat.{◌^◌}
use mathlib.Core.Path.{◌≡◌}
use Rattle.listing.proofs.Filled.{inside, Filled}
use Rattle.listing.proofs.zeros.Given as goal

abbrev pub invariant-loop-c : goal.invariant-loop-c
invariant-loop-c l = (l.c-end ≡ 2 ^ l.m) × Filled (inside l.m l.t) l.c l.set
