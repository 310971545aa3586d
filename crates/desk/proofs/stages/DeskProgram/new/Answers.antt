-- In front of line 1.
use mathlib.Core.Path.{refl}
use Rattle.desk.proofs.Outputs.{good_one}
use Rattle.desk.proofs.stages.DeskProgram.new.Goals as goal

pub returns : goal.returns
returns c = record { is = refl; can = good_one }
