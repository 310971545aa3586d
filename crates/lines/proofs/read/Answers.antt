-- What is asked for is what the line says, if it says anything.
use Rattle.lines.proofs.Orders.{asked_of}
use Rattle.lines.proofs.read.Goals as goal

pub returns : goal.returns
returns c = rw c.unwrap_or.ensures (asked_of _ c.asked.ensures)
