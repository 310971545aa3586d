-- The entries below c hold what their combinations add.
use Rattle.std.proofs.Common.{◌≡◌, ℕ, ◌-◌, ◌/◌, ◌%◌, ◌^◌, ◌<◌, slice_index}
use Rattle.sets.proofs.outs_of.Given as goal

abbrev pub invariant-loop-c : goal.invariant-loop-c
invariant-loop-c l = (k : ℕ) → k < l.c → slice_index l.out-items k ≡ 1 - l.class / 2 ^ k % 2
