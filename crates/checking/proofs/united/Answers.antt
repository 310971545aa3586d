use Rattle.std.proofs.Common.{rules}
use native.Mathlib.Omega.{arith}
use mathlib.Core.Path.{refl}
use lib.ListN.{get_or}
use Rattle.checking.proofs.Firsts.{passed_none, passed_more}
use Rattle.checking.proofs.Unions.{SetOf, set_at, covers_none, overlaps, overlaps_not, covers_more, all_united}
use Rattle.checking.proofs.united.Goals as goal
use Rattle.checking.proofs.united.Goals.{After-set_of-set}

set : (c : After-set_of-set) → SetOf c.args.m (get_or c.args.list.now c.loop-i.i 0) c.set_of-set.result
set c = set_at _ c.args.sets.now _ _ _ c.requires.1 c.requires.2 c.loop-i-test.true c.set_of-set.ensures.0

pub loop-i-init : goal.loop-i-init
loop-i-init c = (passed_none _, covers_none _ c.args.list.now)

pub returns-then-set-covered-ne0 : goal.returns-then-set-covered-ne0
returns-then-set-covered-ne0 c =
    let here = set (goal.at.returns-then-set-covered-ne0 c).After-set_of-set in
    let h = c.loop-i-test.true in
    (refl, record { inside = h; none_before = c.loop-i.invariant.0; here = overlaps _ _ _ _ h here _ c.loop-i.invariant.1 (omega arith) })

pub loop-i-preserved : goal.loop-i-preserved
loop-i-preserved c =
    let here = set (goal.at.loop-i-preserved c).After-set_of-set in
    let h = c.loop-i-test.true in (
      passed_more _ _ c.loop-i.invariant.0 (overlaps_not _ _ _ _ h here _ c.loop-i.invariant.1 (omega arith)),
      covers_more _ _ _ _ h here _ c.loop-i.invariant.1,
    )

pub returns : goal.returns
returns c = all_united _ _ _ _ (omega arith) (search rules) c.loop-i.invariant.0 c.loop-i.invariant.1
