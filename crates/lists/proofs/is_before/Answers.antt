use Rattle.std.proofs.Common.{arith, ⊎_elim, inl, inr}
use Rattle.lists.proofs.Compare.{differs, goes_on, rest_end}
use Rattle.lists.proofs.is_before.Goals as goal

pub returns-then-x-y : goal.returns-then-x-y
returns-then-x-y c = let s = c.in-Some.ensures.steps in differs c.loop-x.invariant s.0 s.1 (omega arith) c.if-x-y.true

pub loop-x-preserved : goal.loop-x-preserved
loop-x-preserved c = let s = c.in-Some.ensures.steps in goes_on c.loop-x.invariant s.0 s.1 c.if-x-y.false

pub returns : goal.returns
returns c = rest_end c.loop-x.invariant (⊎_elim (λ p. inl p.1.0) (λ p. inr p.1.0) c.in-None.ensures.steps) (omega arith)
