-- The boxes through c of the turns so far have moved, and no other entry has.
use Rattle.tables.specs.Tables.{shifted}
use Rattle.tables.proofs.Moves.{MovedUpTo}
use Rattle.tables.proofs.move_at.Given as goal

abbrev pub invariant-loop-b : goal.invariant-loop-b
invariant-loop-b l = MovedUpTo l.m l.c l.b-index (shifted l.by) l.initial.t l.t
