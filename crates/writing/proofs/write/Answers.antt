-- 7 by the test of the sheet.
use Rattle.ground.proofs.Cases.{denied}
use Rattle.stored.specs.Answers.{spoiled}
use Rattle.writing.proofs.write.Goals as goal

pub returns-then-not-ready : goal.returns-then-not-ready
returns-then-not-ready c = spoiled (denied c.ready.ensures c.if-not-ready.true)
