-- The cycle. `cover` with so many boxes left calls `try_boxes` with as many, which calls `cover` with one less: the measures are twice the number, and one
-- more. The loop over the boxes through c holds that none of those passed leads to a list of so many boxes.
use Prim.Native.Nat.{◌+◌, ◌-◌, ◌*◌}
use Rattle.lists.proofs.Lay.{Tried}
use Rattle.sets.specs.Sets.{has}
use Rattle.seek.proofs.Search.+cover_try_boxes.Given as goal

abbrev pub decreases-cover : goal.decreases-cover
decreases-cover l = l.node.left * 2 + 1

abbrev pub decreases-try_boxes : goal.decreases-try_boxes
decreases-try_boxes l = l.node.left * 2

abbrev pub invariant-try_boxes-loop-free : goal.invariant-try_boxes-loop-free
invariant-try_boxes-loop-free l = Tried l.self.marks (has l.node.need) (has l.node.room) (l.node.left - 1) l.c l.free
