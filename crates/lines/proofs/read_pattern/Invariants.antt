-- The characters so far write n.
use Rattle.lines.proofs.Patterns.{Front}
use Rattle.lines.proofs.read_pattern.Given as goal

abbrev pub invariant-loop-c : goal.invariant-loop-c
invariant-loop-c l = Front l.part l.c-index l.n
