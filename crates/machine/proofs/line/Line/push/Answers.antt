-- Room for the byte, or not.
use Rattle.std.proofs.Common.{lt-ltb, le-ltb}
use Rattle.machine.specs.AtHand.{pushed}
use Rattle.machine.proofs.line.Line.push.Goals as goal

pub returns-then-self-lt-MOST : goal.returns-then-self-lt-MOST
unfolding pushed
returns-then-self-lt-MOST c = rw (lt-ltb _ _ c.if-self-lt-MOST.true)

pub returns-else-self-lt-MOST : goal.returns-else-self-lt-MOST
unfolding pushed
returns-else-self-lt-MOST c = rw (le-ltb _ _ c.if-self-lt-MOST.false)
