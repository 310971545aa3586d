-- Each way out is the law of what was tested.
use Rattle.std.proofs.Common.{arith, sym, ◌∙◌}
use Rattle.lines.proofs.Orders.{spaced, amount_short, amount_unspaced, amount_unnamed, amount_untimed, amount_read}
use Rattle.lines.proofs.read_amount.Goals as goal

pub returns-then-part-m : goal.returns-then-part-m
returns-then-part-m c = amount_short _ _ (omega arith)

pub returns-in_default : goal.returns-in_default
returns-in_default c = amount_short _ _ (omega arith)

pub returns-in_default-2 : goal.returns-in_default-2
returns-in_default-2 c = amount_unspaced _ _ (rw (sym c.split_at.ensures.back) (λ e. omega arith))

pub returns-in_err-c : goal.returns-in_err-c
returns-in_err-c c = rw c.from_residual.ensures (amount_unnamed _ _ (rw c.split_at.ensures.front at c.in_err-c.ensures))

pub returns-in_default-read : goal.returns-in_default-read
returns-in_default-read c = amount_untimed _ _ (sym c.split_at.ensures.back ∙ spaced _ (omega arith) (omega arith)) c.in_default-read.ensures

pub returns : goal.returns
returns c =
    amount_read _ _ (sym c.split_at.ensures.back ∙ spaced _ (omega arith) (omega arith)) (rw c.split_at.ensures.front at c.in_ok-c.ensures) c.in-Value.ensures
