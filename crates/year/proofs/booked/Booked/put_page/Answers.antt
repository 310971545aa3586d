-- All months are over.
use Rattle.std.proofs.Common.{arith, rules, ap, ◌∙◌}
use Rattle.bookings.specs.Bookings.{month_total}
use Rattle.print.proofs.Pages.{puts_text, wrote_on}
use Rattle.year.specs.Prints.{month_rows}
use Rattle.year.specs.Parts.{month_in}
use Rattle.year.proofs.Totals.{rows_all}
use Rattle.year.proofs.booked.Booked.put_page.Goals as goal

pub returns : goal.returns
returns c =
    λ b h i.
    let rows = c.put_rows.ensures in
    let page = puts_text (ap (λ l. month_rows (month_in l) 12) (c.totals_to-totals.ensures b h i) ∙ rows_all (month_total h)) rows.rows in (
      omega (arith, rows.short, c.behind-page.ensures.len),
      wrote_on page c.behind-page.ensures.area c.behind-page.ensures.len (omega (arith, rows.short, page.len)) (search rules),
    )
