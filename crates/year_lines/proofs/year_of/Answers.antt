-- By whether the line can be read; else as its bytes read.
use Rattle.year_lines.specs.Slips.{RowNames}
use Rattle.year_lines.proofs.year_of.Goals as goal

pub returns-in_default : goal.returns-in_default
returns-in_default c = rw c.in_default.ensures RowNames.lost

pub returns : goal.returns
returns c = rw c.in-Some.ensures (RowNames.read c.read_year.ensures)
