use Rattle.std.proofs.Common.{refl, sym, ap, ◌∙◌, arith, length, [], length-append}
use lib.Seq.{length-take-le}
use Rattle.ground.proofs.Areas.{wrote_front}
use Rattle.sessions.proofs.Sessions.{fed_some, fed_within, took_number}
use Rattle.ground.proofs.Cases.{clash}
use Rattle.console.proofs.Known.{passed_none, passed_fed, some_rest, no_rest, behind_taken, served}
use Rattle.console.proofs.serve.Goals as goal

pub loop-rest-init : goal.loop-rest-init
loop-rest-init g c = (refl, [], refl, λ p at. passed_none g.P.Program.kind _ at)

pub feed-fed-requires : goal.feed-fed-requires
feed-fed-requires g c =
    let i = c.loop-rest.invariant in
    let a = c.requires.stands in
    let w = (i.3 a.0 a.1).took in
    let long = ap length i.2 ∙ length-append i.1 c.loop-rest.rest.now in
    record { stands = (w.position, w.at); count = omega (arith, took_number g.P.Program.kind a.1 w, long, c.requires.piece_bound); space = omega (arith, i.0) }

pub slice_bounds-out-end : goal.slice_bounds-out-end
slice_bounds-out-end g c =
    let a = c.requires.stands in
    let w = (c.loop-rest.invariant.3 a.0 a.1).took in
    omega (arith, (wrote_front (c.feed-fed.ensures w.position w.at).fed.laid).1)

pub slice_bounds-send-end : goal.slice_bounds-send-end
slice_bounds-send-end g c =
    let a = c.requires.stands in
    let w = (c.loop-rest.invariant.3 a.0 a.1).took in
    omega (arith, length-take-le c.feed-fed.result.wrote c.feed-fed.new.out (wrote_front (c.feed-fed.ensures w.position w.at).fed.laid).1)

pub split_at-requires : goal.split_at-requires
split_at-requires g c =
    let a = c.requires.stands in
    let w = (c.loop-rest.invariant.3 a.0 a.1).took in
    omega (arith, fed_within g.P.Program.kind w (c.feed-fed.ensures w.position w.at))

pub loop-rest-smaller : goal.loop-rest-smaller
loop-rest-smaller g c =
    let a = c.requires.stands in
    let w = (c.loop-rest.invariant.3 a.0 a.1).took in
    omega (arith, c.split_at.ensures.back_len, fed_some g.P.Program.kind w (c.feed-fed.ensures w.position w.at) (some_rest c.loop-rest.rest.now c.is_empty.ensures c.loop-rest-test.true))

pub returns-then-is_over-clause-served : goal.returns-then-is_over-clause-served
returns-then-is_over-clause-served g c =
    λ p at.
    let k = g.P.Program.kind in
    let i = c.loop-rest.invariant in
    let w = i.3 p at in
    let f = c.feed-fed.ensures w.took.position w.took.at in
    served k (behind_taken _ _ _ _ c.feed-fed.result.used i.2 c.split_at.ensures.back) (passed_fed k _ _ _ w f c.in_ok-send.ensures.wrote) (λ e. clash (sym c.is_over.ensures ∙ c.if-is_over.true) e)

pub loop-rest-preserved : goal.loop-rest-preserved
loop-rest-preserved g c =
    let k = g.P.Program.kind in
    let i = c.loop-rest.invariant in (
      omega (arith, i.0, c.feed-fed.auto.out),
      _,
      behind_taken _ _ _ _ c.feed-fed.result.used i.2 c.split_at.ensures.back,
      λ p at. let w = i.3 p at in passed_fed k _ _ _ w (c.feed-fed.ensures w.took.position w.took.at) c.in_ok-send.ensures.wrote,
    )

pub returns-clause-served : goal.returns-clause-served
returns-clause-served g c =
    λ p at.
    let i = c.loop-rest.invariant in
    served g.P.Program.kind i.2 (i.3 p at) (λ e. no_rest c.loop-rest.rest.now c.is_empty.ensures c.loop-rest-test.false)
