-- The two tests before the cast are what it asks for.
use Rattle.std.proofs.Common.{T, sym, subst}
use lib.Ieee.{of_bits, neg}
use Rattle.weights.proofs.parts.Goals as goal

pub truncating_f64_to_u64-n-requires : goal.truncating_f64_to_u64-n-requires
unfolding of_bits neg
truncating_f64_to_u64-n-requires c = record { lower_bound = subst T (sym c.if-z.true) tt; upper_bound = subst T (sym c.if-z-2.true) tt }
