-- By the stage.
use Rattle.year.proofs.Steps.{stop_naming, stop_opening, stop_going, stop_over}
use Rattle.year.proofs.stages.YearProgram.stop.Goals as goal

pub returns-in-Naming : goal.returns-in-Naming
returns-in-Naming c = stop_naming c.in-Naming.is

pub returns-in-Opening : goal.returns-in-Opening
returns-in-Opening c = stop_opening c.in-Opening.is

pub returns-in-Going : goal.returns-in-Going
returns-in-Going c = stop_going c.in-Going.is c.put_page.ensures

pub returns-in-Over : goal.returns-in-Over
returns-in-Over c = stop_over c.in-Over.is
