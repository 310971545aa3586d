-- Nothing, or the refusal by its number.
use mathlib.Core.Path.{sym, ap, ◌∙◌}
use Rattle.machine.specs.Machine.{refusal}
use Rattle.ground.proofs.Areas.{wrote_none, wrote_text}
use Rattle.refusals.proofs.Settled.{never_done}
use Rattle.desk.proofs.Steps.{spoken_refusal}
use Rattle.desk.proofs.stages.spoken.Goals as goal

pub returns-in-Ok : goal.returns-in-Ok
returns-in-Ok c = rw c.in-Ok.is (wrote_none _ 0)

pub returns-in-Err : goal.returns-in-Err
returns-in-Err c =
    rw c.in-Err.is (wrote_text (ap (refusal c.args.number) c.number.ensures ∙ sym (spoken_refusal c.args.number _ (never_done c.in-Err.refusal))) c.refusal.ensures)
