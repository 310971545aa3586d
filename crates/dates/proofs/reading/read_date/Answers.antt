-- Each way out is the law of what was tested.
use Rattle.std.proofs.Common.{arith}
use Rattle.dates.proofs.Dated.{dating_short, dating_dash, dating_dash_2, dating_space, dating_year, dating_month, dating_day, dating_on}
use Rattle.dates.proofs.reading.read_date.Goals as goal

pub returns-in_default : goal.returns-in_default
returns-in_default c = dating_short _ (omega arith)

pub returns-in_default-2 : goal.returns-in_default-2
returns-in_default-2 c = grind (arith, dating_dash, dating_dash_2, dating_space)

pub returns-in_default-3 : goal.returns-in_default-3
returns-in_default-3 c = grind (arith, dating_dash, dating_dash_2, dating_space)

pub returns-in_default-4 : goal.returns-in_default-4
returns-in_default-4 c = grind (arith, dating_dash, dating_dash_2, dating_space)

pub returns-in_err-year : goal.returns-in_err-year
returns-in_err-year c = rw c.from_residual.ensures (dating_year _ (c.in_err-year.ensures))

pub returns-in_err-month : goal.returns-in_err-month
returns-in_err-month c = rw c.from_residual-in_err-month.ensures (dating_month _ (c.in_err-month.ensures))

pub returns-in_err-day : goal.returns-in_err-day
returns-in_err-day c = rw c.from_residual-in_err-day.ensures (dating_day _ (c.in_err-day.ensures))

pub returns : goal.returns
returns c =
    dating_on _ _ (omega arith) (omega arith) (omega arith) (omega arith)
    (c.in_ok-year.ensures)
    (c.in_ok-month.ensures)
    (c.in_ok-day.ensures)
