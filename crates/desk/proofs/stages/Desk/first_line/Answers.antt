-- `first_opened` and `first_shut`.
use mathlib.Core.Path.{refl, ap}
use native.Mathlib.Omega.{arith}
use Rattle.machine.specs.Machine.{refusal}
use Rattle.ground.proofs.Areas.{wrote_text}
use Rattle.refusals.proofs.Settled.{never_done}
use Rattle.desk.proofs.Steps.{refusal_short, first_opened, first_shut}
use Rattle.desk.proofs.stages.Desk.first_line.Goals as goal

pub returns-in-Ok : goal.returns-in-Ok
returns-in-Ok c = first_opened c.in-Ok.ensures refl

pub returns-in-Err : goal.returns-in-Err
returns-in-Err c =
    let some = never_done c.in-Err.refused.refusal in
    let laid = wrote_text (ap (refusal c.args.line.now.number) c.number.ensures) c.refusal.ensures in
    first_shut c.in-Err.ensures laid (refusal_short c.args.line.now.number _ some laid (omega arith) (omega (arith, c.number.ensures))) some
