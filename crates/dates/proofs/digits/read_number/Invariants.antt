-- The bytes so far write n.
use Rattle.std.proofs.Common.{take}
use Rattle.dates.specs.Texts.{Writes}
use Rattle.dates.proofs.digits.read_number.Given as goal

abbrev pub invariant-loop-c : goal.invariant-loop-c
invariant-loop-c l = Writes l.c-index (take l.c-index l.part) l.n
