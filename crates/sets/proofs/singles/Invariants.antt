-- The entries below c hold the boxes of their combinations.
use Rattle.std.proofs.Common.{◌≡◌, ℕ, ◌<◌, slice_index}
use Rattle.boxes.specs.Boxes.{single}
use Rattle.sets.specs.Sets.{set_marks}
use Rattle.sets.proofs.singles.Given as goal

abbrev pub invariant-loop-c : goal.invariant-loop-c
invariant-loop-c l = (k : ℕ) → k < l.c → slice_index l.single-items k ≡ single set_marks k
