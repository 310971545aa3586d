-- What the first two tests refuse.
use Rattle.std.proofs.lemmas.Result.{err_from_is_err_and}
use Rattle.changes.proofs.Tests.{unknown_change, unknown_amount}
use Rattle.changes.proofs.order.of_call.Goals as goal

pub returns-in_err-of-in-Change-clause-number : goal.returns-in_err-of-in-Change-clause-number
returns-in_err-of-in-Change-clause-number c =
    let p = err_from_is_err_and c.from_residual.result c.from_residual.ensures.1 in
    rw (p.1, p.2, c.in-Change.is) (unknown_change _ c.in_err-of-in-Change.ensures.unknown)

pub returns-in_err-of-in-Receive-clause-number : goal.returns-in_err-of-in-Receive-clause-number
returns-in_err-of-in-Receive-clause-number c =
    let p = err_from_is_err_and c.from_residual-in_err-of-in-Receive.result c.from_residual-in_err-of-in-Receive.ensures.1 in
    rw (p.1, p.2, c.in-Receive.is) (unknown_amount _ _ c.in_err-of-in-Receive.ensures.unknown)

pub returns-in_err-of-in-Withdraw-clause-number : goal.returns-in_err-of-in-Withdraw-clause-number
returns-in_err-of-in-Withdraw-clause-number c =
    let p = err_from_is_err_and c.from_residual-in_err-of-in-Withdraw.result c.from_residual-in_err-of-in-Withdraw.ensures.1 in
    rw (p.1, p.2, c.in-Withdraw.is) (unknown_amount _ _ c.in_err-of-in-Withdraw.ensures.unknown)
