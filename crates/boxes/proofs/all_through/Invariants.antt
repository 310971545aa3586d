-- Before turn i the boxes with free marks below i stand there; mark i doubles them.
use Rattle.std.proofs.Common.{◌≡◌, ℕ, ◌^◌, ◌<◌, slice_index}
use Rattle.boxes.specs.Boxes.{through}
use Rattle.boxes.proofs.all_through.Given as goal

abbrev pub invariant-loop-i : goal.invariant-loop-i
invariant-loop-i l = (t : ℕ) → t < 2 ^ l.i → slice_index l.all t ≡ through l.m l.c t
