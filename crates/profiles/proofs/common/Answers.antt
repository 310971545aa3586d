use Rattle.std.proofs.Common.{arith}
use lib.Bits.{bit_and, and_le_l}
use Rattle.profiles.proofs.Counted.{common_ones}
use Rattle.profiles.proofs.common.Goals as goal

pub returns : goal.returns
returns c = grind (arith, bit_and, and_le_l, common_ones)
