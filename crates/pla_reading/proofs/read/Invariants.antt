-- The lines up to the offset are read; each line goes on, ends the reading, or is refused, as the laws of Lines say.
use Rattle.std.proofs.Common.{◌+◌, ◌-◌, length}
use Rattle.pla_reading.proofs.Lines.{Reached}
use Rattle.pla_reading.proofs.read.Given as goal

abbrev pub invariant-loop-at : goal.invariant-loop-at
invariant-loop-at l = Reached l.text l.said l.at

abbrev pub decreases-loop-at : goal.decreases-loop-at
decreases-loop-at l = length l.text + 1 - l.at
