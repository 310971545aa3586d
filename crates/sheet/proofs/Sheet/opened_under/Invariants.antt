-- Below c each combination has what it adds at first.
use Prim.Native.Nat.{◌-◌, ◌^◌, ◌≤◌}
use mathlib.Core.Path.{◌≡◌}
use Rattle.ground.proofs.Filled.{Filled}
use Rattle.sheet.specs.Record.{opened_under, quantity, outside_counts, either_counts}
use Rattle.sheet.proofs.Sheet.opened_under.Given as goal

abbrev pub invariant-loop-c : goal.invariant-loop-c
invariant-loop-c l =
    (l.c ≤ l.n) × (l.n ≡ 2 ^ l.m) × Filled 32 (quantity outside_counts (opened_under l.m l.profile)) l.c l.outs × Filled 32 (quantity either_counts (opened_under l.m l.profile)) l.c l.eithers

abbrev pub decreases-loop-c : goal.decreases-loop-c
decreases-loop-c l = l.n - l.c
