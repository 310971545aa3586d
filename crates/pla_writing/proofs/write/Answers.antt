-- 7 by the test of the class table, and what is written of a sound one.
use Rattle.ground.proofs.Cases.{denied}
use Rattle.pla.specs.Answers.{spoiled}
use Rattle.pla_writing.proofs.write.Goals as goal

pub returns-then-not-class_ready : goal.returns-then-not-class_ready
returns-then-not-class_ready c = spoiled (denied c.class_ready.ensures c.if-not-class_ready.true)

pub write_sound-requires : goal.write_sound-requires
write_sound-requires c = c.class_ready.ensures.yes c.if-not-class_ready.false
