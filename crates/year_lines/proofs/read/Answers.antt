-- What has no date in front is a line of the desk.
use Rattle.year_lines.specs.Slips.{plain}
use Rattle.year_lines.proofs.read.Goals as goal

pub returns : goal.returns
returns c = plain c.in_default.ensures c.read.ensures
