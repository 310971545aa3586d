-- Nothing was said.
use Rattle.pla_reading.proofs.Keeping.{nothing_kept}
use Rattle.pla_reading.proofs.said.Said.nothing.Goals as goal

pub returns : goal.returns
returns c = nothing_kept
