-- The lines of the first numbers are put.
use Rattle.std.proofs.Common.{◌≤◌, ◌+◌, ◌*◌, take}
use Rattle.print.specs.Pages.{Puts}
use Rattle.tables.specs.Tables.{entry}
use Rattle.desk.specs.Prints.{box_lines}
use Rattle.desk.specs.Parts.{line_room}
use Rattle.desk.proofs.page.put_lines.Given as goal

abbrev pub invariant-loop-line : goal.invariant-loop-line
invariant-loop-line l =
    (l.page.len ≤ l.initial.page.len + line_room * l.line-index) × Puts l.initial.page l.page (box_lines l.m (entry l.held) (take l.line-index l.list))
