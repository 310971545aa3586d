-- A verb that the line begins with settles it by what its part reads as; where it has none it says nothing.
use Rattle.std.proofs.Common.{arith}
use Rattle.lines.proofs.Orders.{enter, leave, receive, withdraw, enters, leaves, receives, withdraws, receive_unsaid, withdraw_unsaid, said_end, together, unsaid}
use Rattle.lines.proofs.asked.Goals as goal

pub returns-in-Some : goal.returns-in-Some
returns-in-Some c = together enter c.in-Some.ensures (enters c.in_ok-c.ensures)

pub returns-in-Some-behind : goal.returns-in-Some-behind
returns-in-Some-behind c = together leave c.in-Some-behind.ensures (leaves c.in_ok-c-2.ensures)

pub returns-in_err-c-3 : goal.returns-in_err-c-3
returns-in_err-c-3 c = rw c.from_residual-in_err-c-3.ensures (unsaid receive _ c.in-Some-behind-2.ensures (receive_unsaid c.in_err-c-3.ensures))

pub returns-in-Some-behind-2 : goal.returns-in-Some-behind-2
returns-in-Some-behind-2 c = together receive c.in-Some-behind-2.ensures (receives c.in_ok-c-3.ensures)

pub returns-in_err-c-4 : goal.returns-in_err-c-4
returns-in_err-c-4 c = rw c.from_residual-in_err-c-4.ensures (unsaid withdraw _ c.in-Some-behind-3.ensures (withdraw_unsaid c.in_err-c-4.ensures))

pub returns-in-Some-behind-3 : goal.returns-in-Some-behind-3
returns-in-Some-behind-3 c = together withdraw c.in-Some-behind-3.ensures (withdraws c.in_ok-c-4.ensures)

pub returns : goal.returns
returns c = said_end c.in_ok-part.ensures (grind arith)
