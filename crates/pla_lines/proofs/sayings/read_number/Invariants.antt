-- The digits that have come write a number.
use Rattle.pla_lines.proofs.Numbers.{Told}
use Rattle.pla_lines.proofs.sayings.read_number.Given as goal

abbrev pub invariant-loop-i : goal.invariant-loop-i
invariant-loop-i l = Told l.word l.i l.n
