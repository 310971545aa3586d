-- As many places as the loop has passed are equal, so that the rest says which list is the smaller.
use Rattle.lists.proofs.Compare.{RestSays}
use Rattle.lists.proofs.is_before.Given as goal

abbrev pub invariant-loop-x : goal.invariant-loop-x
invariant-loop-x l = RestSays l.a l.b l.x-iterator.a.rest.now l.x-iterator.b.rest.now
