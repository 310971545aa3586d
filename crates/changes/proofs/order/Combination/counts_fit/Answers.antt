-- Each table of counts is judged by its own shift.
use mathlib.Core.Path.{sym, ◌∙◌, ap}
use mathlib.Core.Bool.{Bool, ◌&&◌}
use Rattle.tables.specs.Tables.{touched}
use Rattle.changes.specs.Calls.{fits_count}
use Rattle.changes.proofs.Tests.{count_judged}
use Rattle.changes.proofs.order.Combination.counts_fit.Goals as goal

pub returns-then-fits_at : goal.returns-then-fits_at
returns-then-fits_at c =
    let s = c.args.self.now in
    let m = s.sheet.now.marks in
    let v = c.args.v.now in
    count_judged m s.c v.either s.sheet.now.either c.fits_at-then-fits_at.ensures
    ∙ ap (λ (t : Bool). t && touched m s.c (fits_count m v.either s.sheet.now.either)) (sym c.if-fits_at.true ∙ count_judged m s.c v.outside s.sheet.now.outside c.fits_at.ensures)

pub returns-else-fits_at : goal.returns-else-fits_at
returns-else-fits_at c =
    let s = c.args.self.now in
    let m = s.sheet.now.marks in
    let v = c.args.v.now in
    c.if-fits_at.false
    ∙ ap (λ (t : Bool). t && touched m s.c (fits_count m v.either s.sheet.now.either)) (sym c.if-fits_at.false ∙ count_judged m s.c v.outside s.sheet.now.outside c.fits_at.ensures)
