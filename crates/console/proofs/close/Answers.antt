-- The session's last words.
use native.Mathlib.Omega.{arith}
use lib.Seq.{length-take-le}
use Rattle.ground.proofs.Areas.{wrote_front}
use Rattle.console.proofs.Known.{on_ok, closed}
use Rattle.console.proofs.close.Goals as goal

pub slice_bounds-out-end : goal.slice_bounds-out-end
slice_bounds-out-end g c =
    let a = c.requires.stands in
    let said = c.finish-n.ensures a.0 a.1 in
    omega (arith, (wrote_front {o₁ = c.finish-n.new.out} said.laid).1)

pub slice_bounds-send-end : goal.slice_bounds-send-end
slice_bounds-send-end g c =
    let a = c.requires.stands in
    let said = c.finish-n.ensures a.0 a.1 in
    omega (arith, length-take-le c.finish-n.result c.finish-n.new.out (wrote_front {o₁ = c.finish-n.new.out} said.laid).1)

pub returns-clause-closed : goal.returns-clause-closed
returns-clause-closed g c = on_ok (λ wrote p at. closed g.P.Program.kind (c.finish-n.ensures p at) wrote) c.send.result c.send.ensures.wrote
