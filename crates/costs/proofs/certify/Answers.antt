use mathlib.Core.Path.{◌≡◌, sym, ◌∙◌}
use Prim.Native.Nat.{◌^◌}
use native.Mathlib.Omega.{arith}
use lib.ListN.{length-set}
use Rattle.boxes.proofs.Numbers.{boxes_mono}
use Rattle.sets.specs.Sets.{value_at}
use Rattle.sets.proofs.Bits.{within_no}
use Rattle.costs.proofs.Cost.{priced_skip, priced_set, priced_all}
use Rattle.costs.proofs.certify.Goals as goal
use Rattle.costs.proofs.certify.Goals.{else-set-room, then-set-room+else-minus-plus}

pub bounds-sets-b : goal.bounds-sets-b
bounds-sets-b c = omega (arith, boxes_mono c.requires.0)

pub bounds-known-b : goal.bounds-known-b
bounds-known-b c = omega (arith, boxes_mono c.requires.0)

pub loop-b-preserved : goal.loop-b-preserved
loop-b-preserved c =
    let a = c.args in
    let l = c.loop-b in
    let row = c.requires.1 l.b (omega arith) in
    elim c.if-set-room.branch [
      | then-set-room+else-minus-plus w ↦ rw w.known-is
          (simp length-set l.invariant.0, priced_set a.m a.need a.room (value_at a.weights.now.plus) (value_at a.weights.now.minus) l.known.costs l.b l.invariant.1 _ _ row.1 (omega (arith, boxes_mono c.requires.0)) (omega arith))
      | else-set-room w ↦ rw w.known-is (
        l.invariant.0,
        priced_skip a.m a.need a.room (value_at a.weights.now.plus) (value_at a.weights.now.minus) l.known.costs l.b l.invariant.1
            (λ i. within_no _ _ (omega arith) (λ x t. i x (sym (row.1 x) ∙ t))),
      )
    ]

pub returns-then-minus-plus : goal.returns-then-minus-plus
returns-then-minus-plus c = c.plain.ensures c.args.m _ _ c.requires.0

pub returns : goal.returns
returns c =
    let l = c.loop-b in
    let e : l.b ≡ 3 ^ c.args.m = omega arith in
    rw (c.weight_of-known.ensures.all, c.weight_of-known-2.ensures.all)
    (priced_all c.args.m c.args.need c.args.room (value_at c.args.weights.now.plus) (value_at c.args.weights.now.minus) l.known.costs l.b l.invariant.1 e
    (rw c.weight_of-known-2.ensures.all at c.weight_of-known-2.ensures.small))
