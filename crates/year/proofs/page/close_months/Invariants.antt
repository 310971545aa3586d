-- The entries up to the month at hand are set (`with_more`).
use Rattle.std.proofs.Common.{◌≤◌, ◌≡◌, length}
use Rattle.year.specs.Parts.{closed_with}
use Rattle.year.proofs.page.close_months.Given as goal

abbrev pub invariant-loop-month : goal.invariant-loop-month
invariant-loop-month l = (l.from ≤ l.month) × (length l.closed ≡ 12) × (l.closed ≡ closed_with l.initial.closed l.from l.month l.total)
