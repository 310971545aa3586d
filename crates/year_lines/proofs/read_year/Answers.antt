-- Each way out is the law of what was tested.
use Rattle.std.proofs.Common.{arith}
use Rattle.year_lines.proofs.Years.{names_other, names_long, names_unwritten, names_early, names_year}
use Rattle.year_lines.proofs.read_year.Goals as goal

pub returns-in_err-part : goal.returns-in_err-part
returns-in_err-part c = rw c.from_residual.ensures (names_other _ c.in_err-part.ensures)

pub returns-then-part-ne4 : goal.returns-then-part-ne4
returns-then-part-ne4 c = names_long c.in_ok-part.ensures (omega arith)

pub returns-in_err-year : goal.returns-in_err-year
returns-in_err-year c = rw c.from_residual-in_err-year.ensures (names_unwritten c.in_ok-part.ensures (omega arith) c.in_err-year.ensures)

pub returns-then-year-lt1600 : goal.returns-then-year-lt1600
returns-then-year-lt1600 c = names_early c.in_ok-part.ensures (omega arith) c.in_ok-year.ensures (omega arith)

pub returns : goal.returns
returns c = names_year c.in_ok-part.ensures (omega arith) c.in_ok-year.ensures (omega arith)
