-- What the code asks of each entry is what the definition asks.
use Rattle.changes.proofs.Tests.{room_judged}
use Rattle.changes.proofs.order.has_room.Goals as goal

pub returns : goal.returns
returns c = let a = c.args in room_judged a.m a.c a.by a.held.now (λ b. (c.type_inv.held b).fits) (rw c.most_after.ensures at c.fits_at.ensures)
