use Rattle.std.proofs.Common.{sym, ◌∙◌, arith, inl, inr}
use lib.Seq.{length-take-le}
use Rattle.machine.specs.Pieces.{start}
use Rattle.sessions.proofs.Sessions.{at_number}
use Rattle.console.proofs.Known.{on_ok, runs_none, runs_more, runs_longer, serves_over, serves_end, served_number}
use Rattle.console.proofs.run_until_used_up.Goals as goal

pub loop-turn-init : goal.loop-turn-init
loop-turn-init g c =
    let k = g.P.Program.kind in
    (omega (arith, at_number k (start k.machine) c.new-session.ensures), runs_none k _ _ c.new-session.ensures, omega arith)

pub returns-then-n-eq0 : goal.returns-then-n-eq0
returns-then-n-eq0 g c =
    let r = c.loop-turn.invariant.1 in
    let after = g.W.Write.contents c.close.new.output in
    let behind = g.R.Read.remaining c.fetch.new.input in
    on_ok (λ closed. inl (serves_end g.P.Program.kind r {after = after} {behind = behind} c.in_ok-n.n c.fetch.new.piece (omega arith) (omega (arith, c.fetch.auto.piece)) c.in_ok-n.ensures.read (closed _ r.passed.took.at)))
    c.close.result c.close.ensures.closed

pub returns-then-is_over : goal.returns-then-is_over
returns-then-is_over g c =
    let r = c.loop-turn.invariant.1 in
    inl (serves_over g.P.Program.kind r _ _ c.in_ok-n.ensures.read.0 (c.in_ok-serve.ensures.served _ r.passed.took.at) c.laws.ensures.silent_when_over
    (sym c.is_over.ensures ∙ c.if-is_over.true))

pub loop-turn-preserved : goal.loop-turn-preserved
loop-turn-preserved g c =
    let k = g.P.Program.kind in
    let i = c.loop-turn.invariant in
    let r = i.1 in
    let v = c.in_ok-serve.ensures.served _ r.passed.took.at in
    let on = sym c.is_over.ensures ∙ c.if-is_over.false in
    let long = length-take-le c.in_ok-n.n c.fetch.new.piece c.in_ok-n.ensures.within in (
      omega (arith, i.0, served_number k r.passed.took.at v, long, c.in_ok-n.ensures.within, c.fetch.auto.piece),
      runs_more k r _ _ c.in_ok-n.ensures.read.0 v on,
      omega (arith, i.2, runs_longer k r _ _ c.in_ok-n.ensures.read.0 v on, long),
    )

-- The reads are used up.
pub returns : goal.returns
returns g c = inr (record { session = _; runs = c.loop-turn.invariant.1; long = omega (arith, c.loop-turn.invariant.2) })
