-- A law for each way out.
use Rattle.std.proofs.Common.{sym, ◌∙◌}
use Rattle.pla_reading.proofs.Keeping.{count_again, count_kept}
use Rattle.pla_reading.proofs.said.Said.take_count.Goals as goal

pub returns-then-is_some-clause-leads : goal.returns-then-is_some-clause-leads
returns-then-is_some-clause-leads c n e s kept = count_again s _ _ kept n (sym c.is_some.ensures ∙ c.if-is_some.true)

pub returns-clause-leads : goal.returns-clause-leads
returns-clause-leads c n e s kept = count_kept s _ _ kept n _ (sym c.is_some.ensures ∙ c.if-is_some.false) e
