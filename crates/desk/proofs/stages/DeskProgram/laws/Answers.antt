-- The laws of the machine.
use Rattle.desk.proofs.Outputs.{one_answer}
use Rattle.desk.proofs.Steps.{silent}
use Rattle.desk.proofs.stages.DeskProgram.laws.Goals as goal

pub returns-clause-one_answer : goal.returns-clause-one_answer
returns-clause-one_answer c = one_answer

pub returns-clause-silent_when_over : goal.returns-clause-silent_when_over
returns-clause-silent_when_over c = silent
