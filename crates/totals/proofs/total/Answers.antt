-- 7 where a table is not sound; else the sum over the class.
use Rattle.ground.proofs.Cases.{denied}
use Rattle.totals.specs.Totals.Totalled.{spoiled, told}
use Rattle.totals.proofs.total.Goals as goal

pub returns-then-not-ready : goal.returns-then-not-ready
returns-then-not-ready c = spoiled (denied c.ready.ensures c.if-not-ready.true)

pub returns : goal.returns
returns c = rw c.total_sound.ensures (told (c.ready.ensures.yes c.if-not-ready.false))
