-- Below c each combination has its mark.
use Rattle.std.proofs.Common.{◌≡◌, ℕ, ◌<◌, ◌&&◌, slice_index}
use lib.Dec.{eqb}
use Rattle.boxes.specs.Sums.{only}
use Rattle.tables.specs.Tables.{entry}
use Rattle.stored.proofs.neither.Given as goal

abbrev pub invariant-loop-c : goal.invariant-loop-c
invariant-loop-c l = (k : ℕ) → k < l.c → slice_index l.rest-items k ≡ only (eqb (entry l.a k) 0 && eqb (entry l.b k) 0) 1
