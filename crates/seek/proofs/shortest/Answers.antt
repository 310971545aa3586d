-- A list exists, of at most `most_lines` boxes, so that not every one of these sizes is tried in vain.
use Prim.Native.Nat.{ℕ, ◌≤◌}
use native.Mathlib.Omega.{arith}
use Rattle.lists.specs.Lists.{AtLeast, most_lines}
use Rattle.sets.specs.Sets.{has}
use Rattle.sets.proofs.Bits.{has_small}
use Rattle.seek.proofs.Settled.{least_small}
use Rattle.seek.proofs.shortest.Goals as goal

pub unreachable-requires : goal.unreachable-requires
unreachable-requires c =
    let a = c.args in
    let most : (k : ℕ) → AtLeast a.m (has a.need) (has a.room) k → k ≤ most_lines a.m =
    λ k. least_small a.m (has a.need) (has a.room) k (has_small a.m a.need c.requires.small) c.requires.within in
    grind (arith, most)
