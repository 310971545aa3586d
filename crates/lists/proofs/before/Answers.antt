-- `is_before` says whether the second is before the first, and the reference itself is returned.
use mathlib.Core.Path.{refl}
use Rattle.ground.proofs.Cases.{clash}
use Rattle.lists.proofs.before.Goals as goal

pub returns-then-is_before : goal.returns-then-is_before
returns-then-is_before c = record { second = λ h. refl; first = λ n. absurd (n (c.is_before.ensures.yes c.if-is_before.true)) }

pub returns : goal.returns
returns c = record { second = λ h. clash (c.is_before.ensures.sure h) c.if-is_before.false; first = λ n. refl }
