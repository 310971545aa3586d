use Prim.Native.Nat.{◌<◌}
use mathlib.Core.Path.{refl, sym, ◌∙◌, ap}
use native.Mathlib.Omega.{arith}
use Rattle.ground.proofs.Filled.{filled_none, filled_more}
use Rattle.classes.specs.Standings.{outs, eithers}
use Rattle.sheet.specs.Limits.{entries}
use Rattle.sheet.specs.Record.{opened_under}
use Rattle.sheet.proofs.Kept.{adds_one}
use Rattle.sheet.proofs.Opening.{combinations_fit, same-entry, same_addable, ones_addable, opened_low, sheet_same}
use Rattle.sheet.proofs.Sheet.opened_under.Goals as goal
use Rattle.sheet.proofs.Sheet.opened_under.Goals.{In-loop-c}

low : (c : In-loop-c) → c.loop-c.c < 32
low c = omega (arith, combinations_fit _ c.requires)

pub loop-c-init : goal.loop-c-init
loop-c-init c = (omega arith, c.power2-n.ensures.0, filled_none _ _ refl, filled_none _ _ refl)

pub offset_bounds-outs-c : goal.offset_bounds-outs-c
offset_bounds-outs-c c = omega (arith, low (goal.at.offset_bounds-outs-c c).In-loop-c)

pub bounds-outs-c : goal.bounds-outs-c
bounds-outs-c c = low (goal.at.bounds-outs-c c).In-loop-c

pub offset_bounds-eithers-c : goal.offset_bounds-eithers-c
offset_bounds-eithers-c c = omega (arith, low (goal.at.offset_bounds-eithers-c c).In-loop-c)

pub bounds-eithers-c : goal.bounds-eithers-c
bounds-eithers-c c = low (goal.at.bounds-eithers-c c).In-loop-c

pub overflow_step-c : goal.overflow_step-c
overflow_step-c c = omega (arith, low (goal.at.overflow_step-c c).In-loop-c)

pub loop-c-preserved : goal.loop-c-preserved
loop-c-preserved c =
    let l = c.loop-c in
    let a = c.args in
    let s = c.opened_as-to.ensures ∙ sym (opened_low a.m l.c a.profile (omega arith)) in (
      omega arith,
      l.invariant.1,
      filled_more (low (goal.at.loop-c-preserved c).In-loop-c) (c.outs.ensures ∙ ap outs s) l.invariant.2,
      filled_more (low (goal.at.loop-c-preserved c).In-loop-c) (c.eithers.ensures ∙ ap eithers s) l.invariant.3,
    )

pub afresh-requires : goal.afresh-requires
afresh-requires c =
    let few = c.requires in
    let m = c.args.m in
    let r = opened_under m c.args.profile in
    let i = c.loop-c.invariant in (
      few,
      ones_addable m _ few (omega (arith, combinations_fit m few, i.2.long)) (λ k h. omega (arith, i.2.holds k (omega arith), adds_one (r.standing k))),
      ones_addable m _ few (omega (arith, combinations_fit m few, i.3.long)) (λ k h. omega (arith, i.3.holds k (omega arith), adds_one (r.standing k))),
      same_addable m 0 few (omega arith),
    )

pub returns : goal.returns
returns c =
    let i = c.loop-c.invariant in
    c.afresh.ensures ∙ sheet_same entries c.args.m c.args.profile _ _ _ _ _ _
    (λ k h. i.2.holds k (omega arith)) (λ k h. i.3.holds k (omega arith)) (λ k h. same-entry c.args.m 0 k c.requires h)
