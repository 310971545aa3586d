-- Each way out is one of the three laws at the place i.
use Rattle.std.proofs.Common.{take, arith, refl, subst}
use Rattle.times.proofs.Fronts.{SoFar, far_none, far_step, stop_at, colon_at, end_at}
use Rattle.times.proofs.Lefts.{left_here}
use Rattle.times.proofs.before_colon.Goals as goal

pub loop-i-init : goal.loop-i-init
loop-i-init c = far_none

pub returns-then-i-gt0 : goal.returns-then-i-gt0
returns-then-i-gt0 c = let l = c.loop-i in left_here _ (omega arith) (colon_at _ l.i l.n l.invariant (omega arith) (omega arith) (omega arith))

pub returns-in_default : goal.returns-in_default
returns-in_default c =
    let l = c.loop-i in
    left_here _ (omega arith) (stop_at _ l.i l.n l.invariant (omega arith) (λ q h. grind (arith, c.else-c-eq58.either)) c.in_default.ensures.stops)

pub loop-i-preserved : goal.loop-i-preserved
loop-i-preserved c = let l = c.loop-i in let d = c.in-Some.ensures.follows in rw d.1 (far_step _ l.i l.n l.invariant (omega arith) d.0)

pub returns : goal.returns
returns c = let l = c.loop-i in left_here _ (omega arith) (end_at _ _ l.n (subst (λ k. SoFar (take k c.args.text.now) l.n) (omega arith) l.invariant) refl)
