use Rattle.std.proofs.Common.{arith, rules, ◌≡◌, ◌-◌, length, ap, ◌∙◌}
use lib.ListN.{set, length-set}
use Rattle.year.proofs.Totals.{with_none, with_more}
use Rattle.year.proofs.page.close_months.Goals as goal

pub loop-month-init : goal.loop-month-init
loop-month-init c =
    let long : length c.args.totals ≡ 12 = search rules in
    (omega arith, long, with_none c.args.totals c.args.from c.args.total long)

pub loop-month-preserved : goal.loop-month-preserved
loop-month-preserved c =
    let l = c.loop-month in (
      omega (arith, l.invariant.0),
      length-set l.closed (l.month - 1) c.args.total ∙ l.invariant.1,
      ap (λ w. set w (l.month - 1) c.args.total) l.invariant.2
          ∙ with_more c.args.totals c.args.from l.month c.args.total c.requires.0 l.invariant.0 (omega arith),
    )
