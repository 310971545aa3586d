-- The first place.
use Rattle.sessions.proofs.Sessions.{at_start}
use Rattle.sessions.proofs.Session.new.Goals as goal

pub returns : goal.returns
returns g c = at_start g.P.Program.kind c.new.ensures c.new-2.ensures
