-- Nothing of a line has come (`finish_quiet`), or the line is spoiled and its step taken (`finish_last`).
use mathlib.Core.Path.{sym, ◌∙◌}
use Rattle.sessions.proofs.Sessions.{finish_quiet, finish_last}
use Rattle.sessions.proofs.Session.finish.Goals as goal

pub returns-then-is_none : goal.returns-then-is_none
returns-then-is_none g c = λ p at. finish_quiet g.P.Program.kind p at (sym c.is_none.ensures ∙ c.if-is_none.true) c.stop.ensures

pub returns : goal.returns
returns g c =
    λ p at.
    let t = c.step-said in
    let last = c.stop-2 in
    finish_last g.P.Program.kind c.cut_off.new.self c.cut_off.ensures t.ensures p at (sym c.is_none.ensures ∙ c.if-is_none.false) t.auto.out last.ensures (last.auto.out ∙ t.auto.out)
