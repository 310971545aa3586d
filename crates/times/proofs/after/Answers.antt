-- A colon behind hours, and then the seconds; else nothing may stand there.
use Rattle.std.proofs.Common.{arith}
use Rattle.times.proofs.Lefts.{left_after, reads_after}
use Rattle.times.proofs.after.Goals as goal

pub returns-then-c-ne58 : goal.returns-then-c-ne58
returns-then-c-ne58 c = left_after _ _ _ (omega arith) (λ e h k. grind (arith, c.then-c-ne58.either))

pub returns : goal.returns
returns c = reads_after _ _ _ (omega arith) (omega arith) (omega arith) (omega arith) _ c.seconds.ensures
