-- The lines of the first boxes are put.
use Rattle.std.proofs.Common.{take}
use Rattle.print.specs.Pages.{Puts}
use Rattle.pla.specs.Writing.{cube_lines}
use Rattle.pla_writing.proofs.put_cubes.Given as goal

abbrev pub invariant-loop-b : goal.invariant-loop-b
invariant-loop-b l = Puts l.initial.page l.page (cube_lines l.m (take l.b-index l.list))
