-- The sizes below k have been tried: no list has fewer than k boxes.
use Rattle.lists.specs.Lists.{AtLeast}
use Rattle.sets.specs.Sets.{has}
use Rattle.seek.proofs.shortest.Given as goal

abbrev pub invariant-loop-k : goal.invariant-loop-k
invariant-loop-k l = AtLeast l.m (has l.need) (has l.room) l.k
