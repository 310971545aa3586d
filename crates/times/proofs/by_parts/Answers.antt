-- The number in front of the colon, and the part behind it.
use Rattle.times.proofs.Fronts.{led_on}
use Rattle.times.proofs.Lefts.{reads_on}
use Rattle.times.proofs.by_parts.Goals as goal

pub returns : goal.returns
returns c = let w = c.in_ok-n.ensures in reads_on w (λ r. led_on _ _ _ w.there) _ c.behind_colon.ensures
