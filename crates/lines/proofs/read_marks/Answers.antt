-- Each way out is the law of what was tested.
use Rattle.std.proofs.Common.{arith}
use Rattle.lines.proofs.Orders.{opens_other, opens_long, opens_byte, opens_marks}
use Rattle.lines.proofs.read_marks.Goals as goal

pub returns-in_err-behind : goal.returns-in_err-behind
returns-in_err-behind c = rw c.from_residual.ensures (opens_other _ c.in_err-behind.ensures)

pub returns-in_default : goal.returns-in_default
returns-in_default c = opens_long _ _ c.in_ok-behind.ensures (λ l. omega arith)

pub returns-in_default-2 : goal.returns-in_default-2
returns-in_default-2 c = opens_long _ _ c.in_ok-behind.ensures (λ l. omega arith)

pub returns-in_err-n : goal.returns-in_err-n
returns-in_err-n c = rw c.from_residual-in_err-n.ensures (opens_byte _ _ c.in_ok-behind.ensures (λ w. c.in_err-n.ensures w.0))

pub returns-then-n-gt9 : goal.returns-then-n-gt9
returns-then-n-gt9 c = let n = c.in_ok-n.ensures in opens_byte _ _ c.in_ok-behind.ensures (λ w. omega arith)

pub returns : goal.returns
returns c = let n = c.in_ok-n.ensures in opens_marks _ _ c.in_ok-behind.ensures _ (omega arith) (omega arith) (omega arith)
