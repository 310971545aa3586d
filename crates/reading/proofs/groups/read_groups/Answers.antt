-- One group more, or the first that is refused.
use Rattle.std.proofs.Common.{◌≡◌, ◌∙◌, ◌+◌, ◌-◌, refl, arith}
use native.Mathlib.Nat.{sub-zero}
use Rattle.sections.proofs.Refused.{passed_on}
use Rattle.reading.proofs.Carried.{groups_none, groups_more, groups_dropped, groups_done}
use Rattle.reading.proofs.groups.read_groups.Goals as goal

pub loop-init : goal.loop-init
loop-init c = (refl, rw (sub-zero c.args.n) (groups_none c.args.form.now.marks c.args.n c.args.form.now.fields))

pub returns-in_err-profile : goal.returns-in_err-profile
returns-in_err-profile c =
    passed_on _ _ c.from_residual.result _ c.from_residual.ensures.1
    (groups_dropped c.loop.invariant.1 (omega arith) (rw c.loop.invariant.0 at c.in_err-profile.ensures))

pub loop-preserved : goal.loop-preserved
loop-preserved c =
    let left : c.args.n - (c.loop.counter + 1) ≡ c.args.n - c.loop.counter - 1 = omega arith in
    (c.in_ok-profile.ensures.0 ∙ c.loop.invariant.0, rw left (groups_more c.loop.invariant.1 (omega arith) (rw c.loop.invariant.0 at c.in_ok-profile.ensures.1)))

pub returns : goal.returns
returns c = (c.loop.invariant.0, groups_done c.loop.invariant.1 (omega arith))
