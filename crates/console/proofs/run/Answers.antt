use Rattle.std.proofs.Common.{sym, ◌∙◌, arith}
use lib.Seq.{length-take-le}
use Rattle.machine.specs.Pieces.{start}
use Rattle.sessions.proofs.Sessions.{at_number}
use Rattle.console.proofs.Known.{on_ok, runs_none, runs_more, serves_over, serves_end, served_number}
use Rattle.console.proofs.run.Goals as goal

pub loop-read-init : goal.loop-read-init
loop-read-init g c =
    let k = g.P.Program.kind in
    (omega (arith, at_number k (start k.machine) c.new-session.ensures), runs_none k _ _ c.new-session.ensures)

pub returns-then-n-eq0 : goal.returns-then-n-eq0
returns-then-n-eq0 g c =
    let r = c.loop-read.invariant.1 in
    on_ok (λ closed. serves_end g.P.Program.kind r c.in_ok-n.n c.fetch.new.piece (omega arith) (omega (arith, c.fetch.auto.piece)) c.in_ok-n.ensures.read (closed _ r.passed.took.at))
    c.close.result c.close.ensures.closed

pub returns-then-is_over : goal.returns-then-is_over
returns-then-is_over g c =
    let r = c.loop-read.invariant.1 in
    serves_over g.P.Program.kind r _ _ c.in_ok-n.ensures.read.0 (c.in_ok-serve.ensures.served _ r.passed.took.at) c.laws.ensures.silent_when_over
    (sym c.is_over.ensures ∙ c.if-is_over.true)

pub loop-read-preserved : goal.loop-read-preserved
loop-read-preserved g c =
    let k = g.P.Program.kind in
    let i = c.loop-read.invariant in
    let r = i.1 in
    let v = c.in_ok-serve.ensures.served _ r.passed.took.at in
    let long = length-take-le c.in_ok-n.n c.fetch.new.piece c.in_ok-n.ensures.within in (
      omega (arith, i.0, served_number k r.passed.took.at v, long, c.in_ok-n.ensures.within, c.fetch.auto.piece),
      runs_more k r _ _ c.in_ok-n.ensures.read.0 v (sym c.is_over.ensures ∙ c.if-is_over.false),
    )
