-- A byte that is no digit is in no number.
use Rattle.std.proofs.Common.{arith}
use Rattle.dates.proofs.Numbers.{writes_none, writes_more, number_other}
use Rattle.dates.proofs.digits.read_number.Goals as goal

pub loop-c-init : goal.loop-c-init
loop-c-init c = writes_none c.args.part.now

pub returns-in_err-d : goal.returns-in_err-d
returns-in_err-d c = rw c.from_residual.ensures (number_other _ c.loop-c.c-index (omega arith) (λ w. c.in_err-d.ensures w.0))

pub returns-then-d-gt9 : goal.returns-then-d-gt9
returns-then-d-gt9 c = number_other _ c.loop-c.c-index (omega arith) (λ w. omega arith)

pub loop-c-preserved : goal.loop-c-preserved
loop-c-preserved c = let l = c.loop-c in writes_more _ l.c-index l.n _ l.invariant (omega arith) (omega arith) (omega arith)
