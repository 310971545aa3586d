-- No profile, or a count, the groups that it counts, and whether they are obeyed.
use Rattle.std.proofs.Common.{rules}
use Rattle.ground.proofs.Cases.{denied}
use Rattle.sections.proofs.Refused.{passed_on}
use Rattle.reading.proofs.Carried.{profile_none, profile_missed, profile_dropped, profile_obeyed, profile_broken}
use Rattle.reading.proofs.groups.read.Goals as goal

pub returns-then-is_empty : goal.returns-then-is_empty
returns-then-is_empty c = profile_none (search rules)

pub returns-in_err-count : goal.returns-in_err-count
returns-in_err-count c = passed_on _ _ c.from_residual.result _ c.from_residual.ensures.1 (profile_missed (search rules) c.in_err-count.ensures.read)

pub returns-in_err-profile : goal.returns-in_err-profile
returns-in_err-profile c =
    passed_on _ _ c.from_residual-in_err-profile.result _ c.from_residual-in_err-profile.ensures.1
    (profile_dropped (search rules) c.in_ok-count.ensures.read c.in_err-profile.ensures)

pub returns-then-not-obeyed : goal.returns-then-not-obeyed
returns-then-not-obeyed c =
    rw c.place-place.ensures
    (profile_broken (search rules) c.in_ok-count.ensures.read c.in_ok-profile.ensures.1 (denied (rw c.in_ok-profile.ensures.0 at c.obeyed.ensures) c.if-not-obeyed.true))

pub returns : goal.returns
returns c =
    profile_obeyed (search rules) c.in_ok-count.ensures.read c.in_ok-profile.ensures.1 ((rw c.in_ok-profile.ensures.0 at c.obeyed.ensures).yes c.if-not-obeyed.false)
