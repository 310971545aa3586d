-- The rows of the first months are put.
use Rattle.std.proofs.Common.{◌≤◌, ◌+◌, ◌*◌}
use Rattle.print.specs.Pages.{Puts}
use Rattle.year.specs.Prints.{month_rows}
use Rattle.year.specs.Parts.{month_in, row_room}
use Rattle.year.proofs.page.put_rows.Given as goal

abbrev pub invariant-loop-i : goal.invariant-loop-i
invariant-loop-i l = (l.page.len ≤ l.initial.page.len + row_room * l.i) × Puts l.initial.page l.page (month_rows (month_in l.totals) l.i)
