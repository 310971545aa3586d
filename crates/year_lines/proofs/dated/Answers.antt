-- By whether the line is dated, and then by what its part behind the date asks for.
use Rattle.std.proofs.Common.{arith}
use Rattle.dates.proofs.Dated.{dated_long}
use Rattle.year_lines.proofs.Slips.{rest_lent, asked_dated, uncalled}
use Rattle.year_lines.proofs.dated.Goals as goal

pub slice_bounds-read-count : goal.slice_bounds-read-count
slice_bounds-read-count c = omega (arith, dated_long (c.in_ok-date.ensures).1)

pub slice_bounds-read-start : goal.slice_bounds-read-start
slice_bounds-read-start c = omega (arith, dated_long (c.in_ok-date.ensures).1)

pub returns-in_default : goal.returns-in_default
returns-in_default c = let w = (c.in_ok-date.ensures).1 in uncalled w (rest_lent w c.read.ensures) c.in_default.not-Make

pub returns : goal.returns
returns c = let w = (c.in_ok-date.ensures).1 in asked_dated w (rest_lent w c.in-Make.ensures)
