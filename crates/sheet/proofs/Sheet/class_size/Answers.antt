-- 7 where the class table is not sound; else what it counts.
use Rattle.ground.proofs.Cases.{denied}
use Rattle.sheet.specs.Answers.{spoiled, told}
use Rattle.sheet.proofs.Sheet.class_size.Goals as goal

pub returns-then-not-class_ready : goal.returns-then-not-class_ready
returns-then-not-class_ready c = spoiled (denied c.class_ready.ensures c.if-not-class_ready.true)

pub returns : goal.returns
returns c = rw c.size_sound.ensures (told (c.class_ready.ensures.yes c.if-not-class_ready.false))
