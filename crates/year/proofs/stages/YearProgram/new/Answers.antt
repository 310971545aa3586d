-- Nothing is booked.
use mathlib.Core.Path.{refl}
use Rattle.year.proofs.Outputs.{good_start}
use Rattle.year.proofs.stages.YearProgram.new.Goals as goal

pub returns : goal.returns
returns c = record { is = refl; can = good_start 0 }
