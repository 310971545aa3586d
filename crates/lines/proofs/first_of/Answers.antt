-- By whether the line can be read; else as its bytes read.
use Rattle.lines.specs.Words.{RowOpens}
use Rattle.lines.proofs.first_of.Goals as goal

pub returns-in_default : goal.returns-in_default
returns-in_default c = rw c.in_default.ensures RowOpens.lost

pub returns : goal.returns
returns c = rw c.in-Some.ensures (RowOpens.read c.read_marks.ensures)
