use mathlib.Core.Path.{◌≡◌}
use Prim.Native.Nat.{◌+◌, ◌-◌, ◌<◌, ◌^◌}
use native.Mathlib.Omega.{arith}
use Rattle.seek.proofs.Turn.{none_left, one_left, left_lowest, left_lt, one_more, turn_on, turn_hit, turns_end, deeper}
use Rattle.seek.proofs.Search.+cover_try_boxes.Goals as goal

pub cover-returns-then-node-eq0 : goal.cover-returns-then-node-eq0
cover-returns-then-node-eq0 t c = none_left c.args.self.now.few c.requires.node (omega arith) _

pub cover-returns-then-node-eq0-2 : goal.cover-returns-then-node-eq0-2
cover-returns-then-node-eq0-2 t c = one_left c.args.self.now.few c.requires.node (omega arith) (omega arith)

pub cover-try_boxes-requires : goal.cover-try_boxes-requires
cover-try_boxes-requires t c =
    let few = c.args.self.now.few in
    let some = c.if-node-eq0.false in
    (omega arith, (c.requires.node, (omega arith, (c.requires.left_in_bounds, (left_lowest few c.requires.node some, left_lt few c.requires.node some)))))

pub try_boxes-cover-requires : goal.try_boxes-cover-requires
try_boxes-cover-requires t c =
    let n = one_more c.requires.node c.requires.some_left in
    let b = c.box_on-b in
    let wide : c.args.node.room < 2 ^ 32 = omega arith in (
      omega arith,
      (
        deeper c.args.self.now.few _ n wide c.args.c c.loop-free.free b.result _ b.ensures.within.0 b.ensures.is_through (c.args.self.now.of_boxes b.result b.ensures.within.0) c.if-set-node.true c.if-self-b.true,
        grind arith,
      ),
    )

pub try_boxes-returns-then-cover : goal.try_boxes-returns-then-cover
try_boxes-returns-then-cover t c =
    let n = one_more c.requires.node c.requires.some_left in
    let b = c.box_on-b in
    let e : c.args.node.left - 1 + 1 ≡ c.args.node.left = omega arith in
    let wide : c.args.node.room < 2 ^ 32 = omega arith in
    rw e at
    (turn_hit c.args.self.now.few (c.args.node.left - 1) n wide c.args.c c.loop-free.free b.result _ b.ensures.within.0 b.ensures.is_through (c.args.self.now.of_boxes b.result b.ensures.within.0) c.if-set-node.true
    c.requires.lowest.0 c.requires.lowest.1 c.loop-free.invariant _ (omega arith) c.if-cover.ensures)

pub try_boxes-loop-free-preserved : goal.try_boxes-loop-free-preserved
try_boxes-loop-free-preserved t c =
    let few = c.args.self.now.few in
    let n = one_more c.requires.node c.requires.some_left in
    let b = c.box_on-b in
    let row = c.args.self.now.of_boxes b.result b.ensures.within.0 in
    let wide : c.args.node.room < 2 ^ 32 = omega arith in
    turn_on few _ n wide c.args.c c.loop-free.free b.result _ b.ensures.within.0 b.ensures.is_through row c.loop-free.invariant (λ inside fits. grind arith)

pub try_boxes-returns : goal.try_boxes-returns
try_boxes-returns t c =
    let n = one_more c.requires.node c.requires.some_left in
    let e : c.args.node.left - 1 + 1 ≡ c.args.node.left = omega arith in
    rw e at (turns_end _ n c.args.c c.loop-free.free c.requires.lowest.0 c.requires.lowest.1 (omega arith) c.loop-free.invariant)
