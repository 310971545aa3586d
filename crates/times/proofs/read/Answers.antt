-- Read so part by part, the text is read as it is written.
use Rattle.times.specs.Places.{value}
use Rattle.times.proofs.Words.{as_read}
use Rattle.times.proofs.Lefts.{fault_left}
use Rattle.times.proofs.read.Goals as goal

pub returns-in-Ok : goal.returns-in-Ok
returns-in-Ok c = as_read (value c.in-Ok.ensures)

pub returns-in-Err : goal.returns-in-Err
returns-in-Err c = as_read (fault_left c.in-Err.ensures)
