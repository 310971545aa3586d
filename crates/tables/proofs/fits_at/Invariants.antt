-- Every box of an earlier turn fits.
use Rattle.std.proofs.Common.{◌≡◌, ℕ, ◌<◌, true}
use Rattle.boxes.specs.Boxes.{through}
use Rattle.tables.specs.Parts.{fits_moved}
use Rattle.tables.proofs.fits_at.Given as goal

abbrev pub invariant-loop-k : goal.invariant-loop-k
invariant-loop-k l = (u : ℕ) → u < l.k → fits_moved l.m l.by l.t l.most l.each (through l.m l.c u) ≡ true
