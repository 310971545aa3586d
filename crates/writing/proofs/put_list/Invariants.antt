-- The combinations below c are put.
use Rattle.std.proofs.Common.{◌∷◌, length}
use lib.Dec.{ltb}
use Rattle.tables.specs.Tables.{entry}
use Rattle.stored.specs.Form.{bytes}
use Rattle.stored.specs.Sections.{bytes_behind}
use Rattle.writing.proofs.Laws.{Listing}
use Rattle.writing.proofs.put_list.Given as goal

abbrev pub invariant-loop-c : goal.invariant-loop-c
invariant-loop-c l = Listing (λ j. ltb 0 (entry l.has j)) (λ j. j ∷ bytes (bytes_behind l.section) (entry l.has j)) (length l.has) l.initial.page l.page l.c
