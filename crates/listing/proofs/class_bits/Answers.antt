-- The zeros of both counts, and their `&`.
use Rattle.listing.proofs.Filled.{bits_of}
use Rattle.listing.proofs.class_bits.Goals as goal

pub returns : goal.returns
returns c = let z = c.zeros-room.ensures in bits_of _ _ _ _ _ z.0 z.1 c.zeros.ensures.1
