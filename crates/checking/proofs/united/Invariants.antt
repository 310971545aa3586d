-- No box before i overlaps an earlier one, and the union is what they cover.
use Rattle.checking.specs.Faults.{Overlaps}
use Rattle.checking.proofs.Firsts.{Passed}
use Rattle.checking.proofs.Unions.{Covers}
use Rattle.checking.proofs.united.Given as goal

abbrev pub invariant-loop-i : goal.invariant-loop-i
invariant-loop-i l = Passed (Overlaps l.m l.list) l.i × Covers l.m l.list l.i l.covered
