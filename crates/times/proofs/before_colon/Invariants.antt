-- The loop has read digits that a readable text begins with.
use Rattle.std.proofs.Common.{take}
use Rattle.times.proofs.Fronts.{SoFar}
use Rattle.times.proofs.before_colon.Given as goal

abbrev pub invariant-loop-i : goal.invariant-loop-i
invariant-loop-i l = SoFar (take l.i l.text) l.n
