-- By the certificate every list has more than k boxes, or the lists of k boxes cost no more than what is to spare.
use native.Mathlib.Omega.{arith}
use Rattle.seek.proofs.Spare.{too_few, to_spare}
use Rattle.seek.proofs.Search.of_size.Goals as goal

pub returns-then-all-self : goal.returns-then-all-self
returns-then-all-self c = too_few _ _ _ _ _ _ _ c.requires.certified (omega arith)

pub cover-requires : goal.cover-requires
cover-requires c = record { node = record { stage = c.requires.stage; most = to_spare _ _ _ _ _ _ _ c.requires.certified (omega arith) }; left_in_bounds = c.requires.k_bound.1 }
