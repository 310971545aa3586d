-- By whether the line can be read; else as its bytes read.
use Rattle.lines.specs.Words.{RowAsks}
use Rattle.lines.proofs.order_of.Goals as goal

pub returns-in_default : goal.returns-in_default
returns-in_default c = rw c.in_default.ensures RowAsks.lost

pub returns : goal.returns
returns c = rw c.in-Some.ensures (RowAsks.read c.read.ensures)
