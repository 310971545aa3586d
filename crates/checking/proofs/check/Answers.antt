-- 7 where the class table is not sound.
use mathlib.Core.Path.{refl}
use Rattle.ground.proofs.Cases.{denied}
use Rattle.checking.specs.Answers.Checked.{spoiled}
use Rattle.checking.proofs.check.Goals as goal

pub returns-then-not-class_ready : goal.returns-then-not-class_ready
returns-then-not-class_ready c = record { found = spoiled (denied c.class_ready.ensures c.if-not-class_ready.true); refused = refl }
