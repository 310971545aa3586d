-- As line 2 opens a sheet, or does not.
use mathlib.Core.Path.{refl, ap}
use native.Mathlib.Omega.{arith}
use Rattle.machine.specs.Machine.{refusal}
use Rattle.ground.proofs.Areas.{wrote_text}
use Rattle.refusals.proofs.Settled.{never_done}
use Rattle.desk.proofs.Steps.{refusal_short}
use Rattle.year.proofs.Steps.{marks_opened, marks_shut}
use Rattle.year.proofs.stages.Year.marks_line.Goals as goal

pub returns-in-Ok : goal.returns-in-Ok
returns-in-Ok c = marks_opened c.in-Ok.ensures c.new.ensures refl

pub returns-in-Err : goal.returns-in-Err
returns-in-Err c =
    let some = never_done c.in-Err.refused.refusal in
    let laid = wrote_text (ap (refusal c.args.line.now.number) c.number.ensures) c.refusal.ensures in
    marks_shut c.in-Err.ensures laid (refusal_short c.args.line.now.number _ some laid (omega arith) (omega (arith, c.number.ensures))) some c.new-in-Err.ensures
