-- Each box costs the same, so that a list costs that for each of its boxes.
use Rattle.costs.proofs.Cost.{plain_certified}
use Rattle.costs.proofs.plain.Goals as goal

pub returns : goal.returns
returns c = plain_certified
