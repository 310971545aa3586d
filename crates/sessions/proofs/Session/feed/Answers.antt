-- What was cut of the piece is quiet (`feed_quiet`), or ends a line, whose step is taken (`feed_line`).
use native.Mathlib.Omega.{arith}
use Rattle.sessions.proofs.Sessions.{cut_number, feed_quiet, feed_line}
use Rattle.sessions.proofs.Session.feed.Goals as goal

pub returns-then-not-ended : goal.returns-then-not-ended
returns-then-not-ended g c = feed_quiet g.P.Program.kind _ c.take-used.new.self c.take-used.ensures _ c.if-not-ended.true

pub next-self-requires : goal.next-self-requires
next-self-requires g c =
    let a = c.requires.stands in
    omega (arith, c.requires.count, cut_number g.P.Program.kind _ c.take-used.new.self c.take-used.ensures a.0 a.1)

pub returns : goal.returns
returns g c = feed_line g.P.Program.kind _ c.take-used.new.self c.take-used.ensures c.if-not-ended.false c.step-wrote.ensures c.next-self.ensures
