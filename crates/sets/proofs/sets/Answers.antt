-- The table holds what it should: it was computed.
use Rattle.sets.proofs.Computed.{sets_hold}
use Rattle.sets.proofs.sets.Goals as goal

pub returns : goal.returns
returns c = sets_hold
