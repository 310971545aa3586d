use Rattle.std.proofs.Common.{ℕ, ◌≡◌, ◌+◌, ◌-◌, arith, refl, ap}
use lib.ListN.{get_or}
use Rattle.print.proofs.Pages.{puts_nothing}
use Rattle.year.specs.Prints.{month_rows}
use Rattle.year.specs.Parts.{month_in}
use Rattle.year.proofs.Totals.{row_length, row_put}
use Rattle.year.proofs.page.put_rows.Goals as goal

pub loop-i-init : goal.loop-i-init
unfolding month_rows
loop-i-init c = (omega arith, puts_nothing _)

pub loop-i-preserved : goal.loop-i-preserved
loop-i-preserved c =
    let l = c.loop-i in
    let f = month_in c.args.totals.now in
    let z : l.i ≡ l.i + 1 - 1 = omega arith in
    let x = get_or c.args.totals.now l.i 0 in
    let h = c.type_inv.totals l.i in (
      omega (arith, l.invariant.0, c.put_row.ensures.len, row_length (l.i + 1) x (omega (arith, h))),
      row_put f l.i refl (ap (λ (n : ℕ). get_or c.args.totals.now n 0) z) l.invariant.1 c.put_row.ensures,
    )
