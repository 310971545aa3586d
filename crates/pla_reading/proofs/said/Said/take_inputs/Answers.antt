-- A law for each way out.
use Rattle.std.proofs.Common.{arith, sym, ◌∙◌}
use Rattle.pla_reading.proofs.Keeping.{inputs_again, inputs_wrong, inputs_kept}
use Rattle.pla_reading.proofs.said.Said.take_inputs.Goals as goal

pub returns-then-self-ne0-clause-leads : goal.returns-then-self-ne0-clause-leads
returns-then-self-ne0-clause-leads c n e s kept = inputs_again s _ _ kept n (omega arith)

pub returns-then-not-marks_ok-clause-leads : goal.returns-then-not-marks_ok-clause-leads
returns-then-not-marks_ok-clause-leads c n e s kept = inputs_wrong s _ _ kept n _ (omega arith) e (sym c.marks_ok.ensures ∙ c.if-not-marks_ok.true)

pub returns-clause-leads : goal.returns-clause-leads
returns-clause-leads c n e s kept = inputs_kept s _ _ kept n _ (omega arith) e (sym c.marks_ok.ensures ∙ c.if-not-marks_ok.false)
