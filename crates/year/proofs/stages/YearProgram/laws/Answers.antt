-- The laws of the machine.
use Rattle.year.proofs.Outputs.{one_answer}
use Rattle.year.proofs.Steps.{silent}
use Rattle.year.proofs.stages.YearProgram.laws.Goals as goal

pub returns-clause-one_answer : goal.returns-clause-one_answer
returns-clause-one_answer c = one_answer

pub returns-clause-silent_when_over : goal.returns-clause-silent_when_over
returns-clause-silent_when_over c = silent
