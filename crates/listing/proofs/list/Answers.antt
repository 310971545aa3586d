-- 7 where the class table is not sound.
use Rattle.ground.proofs.Cases.{denied}
use Rattle.listing.specs.Listing.Listed.{spoiled}
use Rattle.listing.proofs.list.Goals as goal

pub returns-then-not-class_ready : goal.returns-then-not-class_ready
returns-then-not-class_ready c = spoiled (denied c.class_ready.ensures c.if-not-class_ready.true)
