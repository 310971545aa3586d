use Rattle.std.proofs.Common.{◌∙◌, arith}
use Rattle.sets.proofs.Bits.{has_out}
use Rattle.sets.proofs.outs_of.Goals as goal

pub returns : goal.returns
returns c = (omega arith, λ k h. c.loop-c.invariant k (omega arith) ∙ has_out k c.args.class)
