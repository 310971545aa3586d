-- Another length or another character is no pattern.
use Rattle.std.proofs.Common.{arith}
use Rattle.lines.proofs.Patterns.{front_none, front_more, pattern_long, pattern_other, pattern_read}
use Rattle.lines.proofs.read_pattern.Goals as goal

pub returns-then-part-m : goal.returns-then-part-m
returns-then-part-m c = pattern_long _ _ (omega arith)

pub loop-c-init : goal.loop-c-init
loop-c-init c = front_none _

pub returns-in_err-d : goal.returns-in_err-d
returns-in_err-d c = rw c.from_residual.ensures (pattern_other _ _ c.loop-c.c-index (omega arith) (λ w. c.in_err-d.ensures w.0))

pub returns-then-d-gt1 : goal.returns-then-d-gt1
returns-then-d-gt1 c = pattern_other _ _ c.loop-c.c-index (omega arith) (λ w. omega arith)

pub loop-c-preserved : goal.loop-c-preserved
loop-c-preserved c = let l = c.loop-c in front_more _ l.c-index l.n _ l.invariant (omega arith) (omega arith) (omega arith)

pub returns : goal.returns
returns c = pattern_read _ _ c.loop-c.c-index _ (omega arith) (omega arith) c.loop-c.invariant
