-- The signs that have come are the pattern of a box.
use Rattle.std.proofs.Common.{◌≡◌, length}
use Rattle.pla_lines.proofs.Cubes.{Signs}
use Rattle.pla_lines.proofs.sayings.read_cube.Given as goal

abbrev pub invariant-loop-sign : goal.invariant-loop-sign
invariant-loop-sign l = (length l.word ≡ l.m) × Signs l.word l.sign-index l.b
