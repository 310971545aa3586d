-- By the stage.
use Rattle.desk.proofs.Steps.{stop_opening, stop_going, stop_over}
use Rattle.desk.proofs.stages.DeskProgram.stop.Goals as goal

pub returns-in-Opening : goal.returns-in-Opening
returns-in-Opening c = stop_opening c.in-Opening.is

pub returns-in-Going : goal.returns-in-Going
returns-in-Going c = stop_going c.in-Going.is c.result.ensures

pub returns-in-Over : goal.returns-in-Over
returns-in-Over c = stop_over c.in-Over.is
