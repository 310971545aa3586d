-- A byte, and whether its group may stand there.
use Rattle.std.proofs.Common.{refl, sym, ◌∙◌}
use Rattle.sections.proofs.Refused.{passed_on}
use Rattle.reading.proofs.Carried.{group_carried, group_dropped, group_faulty}
use Rattle.reading.proofs.groups.read_group.Goals as goal

pub returns-in_err-group : goal.returns-in_err-group
returns-in_err-group c = passed_on _ _ c.from_residual.result _ c.from_residual.ensures.1 (group_faulty c.in_err-group.ensures.read)

pub returns-then-not-may_follow : goal.returns-then-not-may_follow
returns-then-not-may_follow c start left =
    rw c.place-place.ensures (group_dropped c.in_ok-group.ensures.read start left (sym c.may_follow.ensures ∙ c.if-not-may_follow.true))

pub returns : goal.returns
returns c =
    (refl, λ start left. rw c.followed.ensures (group_carried c.in_ok-group.ensures.read start left (sym c.may_follow.ensures ∙ c.if-not-may_follow.false)))
