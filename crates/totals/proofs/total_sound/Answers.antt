use mathlib.Core.Path.{refl, sym, ap}
use native.Mathlib.Omega.{arith}
use native.Mathlib.Numerals.{add-one}
use Rattle.boxes.specs.Sums.{sum}
use Rattle.totals.proofs.total_sound.Invariants.{upto}
use Rattle.totals.proofs.total_sound.Goals as goal

pub loop-c-init : goal.loop-c-init
unfolding sum
loop-c-init c = (c.power2-c-end.ensures.0, omega arith, refl)

pub loop-c-preserved : goal.loop-c-preserved
unfolding sum
loop-c-preserved c =
    let l = c.loop-c in
    let s = c.args.sheet.now in
    (l.invariant.0, omega arith, rw (l.invariant.2, c.seconds_of-total.ensures.0) (ap (upto s) (sym (add-one l.c))))
