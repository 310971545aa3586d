-- By the test that is not passed.
use mathlib.Core.Path.{sym, ◌∙◌}
use native.Mathlib.Omega.{arith}
use Rattle.changes.specs.Parts.{spoiled, beyond}
use Rattle.changes.proofs.order.Combination.of.Goals as goal

pub returns-then-not-marks_ok-clause-unknown : goal.returns-then-not-marks_ok-clause-unknown
returns-then-not-marks_ok-clause-unknown c = spoiled (sym c.marks_ok.ensures ∙ c.if-not-marks_ok.true)

pub returns-then-power2-c-clause-unknown : goal.returns-then-power2-c-clause-unknown
returns-then-power2-c-clause-unknown c = beyond (sym c.marks_ok.ensures ∙ c.if-not-marks_ok.false) (omega arith)
