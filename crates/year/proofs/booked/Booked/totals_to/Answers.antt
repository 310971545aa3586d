-- The months that are over since the last accepted date, if any, have the total of the sheet.
use mathlib.Core.Path.{subst}
use Rattle.sheet.specs.Limits.{most_marks}
use Rattle.totals.specs.Totals.{Totalled}
use Rattle.desk.proofs.Results.{valued}
use Rattle.year.proofs.Steps.{totals_more}
use Rattle.year.proofs.booked.Booked.totals_to.Goals as goal

pub returns : goal.returns
returns c =
    let totalled = subst (Totalled most_marks c.args.self.now.sheet) (valued c.total.result c.unwrap_or-total.ensures) c.total.ensures in
    λ b h i. totals_more i totalled c.requires.month_le_month.0 c.close_months.ensures
