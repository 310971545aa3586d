-- What is cut of the whole piece is what is cut of its rest, i bytes later (`used_more`).
use Rattle.std.proofs.Common.{◌≡◌, drop}
use Rattle.machine.specs.AtHand.{cut_of}
use Rattle.machine.proofs.AtHand.{used_more}
use Rattle.machine.proofs.line.Line.take.Given as goal

abbrev pub invariant-loop-i : goal.invariant-loop-i
invariant-loop-i l = cut_of l.fn.self l.piece ≡ used_more l.i (cut_of l.self (drop l.i l.piece))
