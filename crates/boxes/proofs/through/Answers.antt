-- It stands in the table.
use native.Mathlib.Omega.{arith}
use Rattle.boxes.proofs.Choices.{through-lt}
use Rattle.boxes.proofs.through.Goals as goal

pub returns : goal.returns
returns c = grind (arith, through-lt)
