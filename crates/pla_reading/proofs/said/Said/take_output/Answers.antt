-- A law for each way out.
use Rattle.std.proofs.Common.{arith}
use Rattle.pla_reading.proofs.Keeping.{output_early, output_again, output_kept}
use Rattle.pla_reading.proofs.said.Said.take_output.Goals as goal

pub returns-then-self-eq0-clause-leads : goal.returns-then-self-eq0-clause-leads
returns-then-self-eq0-clause-leads c s kept = output_early s _ _ kept (omega arith)

pub returns-then-self-clause-leads : goal.returns-then-self-clause-leads
returns-then-self-clause-leads c s kept = output_again s _ _ kept c.if-self.true

pub returns-clause-leads : goal.returns-clause-leads
returns-clause-leads c s kept = output_kept s _ _ kept (omega arith) c.if-self.false
