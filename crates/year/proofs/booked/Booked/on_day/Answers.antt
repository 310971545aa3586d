-- By the date, and then by the call's own answer.
use mathlib.Core.Path.{refl, sym, ◌∙◌}
use native.Mathlib.Omega.{arith}
use Rattle.std.proofs.Common.{Ok, Err}
use Rattle.std.proofs.lemmas.Result.{err_from_is_err_and}
use Rattle.refusals.proofs.Settled.{never_done}
use Rattle.dates.proofs.Calendar.{day_month}
use Rattle.bookings.proofs.Bookings.{ok_day, ok_month}
use Rattle.year.proofs.Steps.{day_refused, day_taken}
use Rattle.year.proofs.booked.Booked.on_day.Goals as goal

pub totals_to-self-requires-clause-month_le_month : goal.totals_to-self-requires-clause-month_le_month
totals_to-self-requires-clause-month_le_month c =
    let ok = sym c.in_order.ensures ∙ c.if-not-in_order.false in
    let day = day_month c.args.date (ok_day _ c.args.self.now.last c.args.date ok) in
    (ok_month _ c.args.self.now.last c.args.date ok refl, omega (arith, day.1))

pub returns-in_err-did : goal.returns-in_err-did
returns-in_err-did c =
    let ok = sym c.in_order.ensures ∙ c.if-not-in_order.false in
    let p = err_from_is_err_and c.from_residual.result c.from_residual.ensures.1 in
    let refused = day_refused c.args.date c.args.call (Err c.in_err-did.field-0.0) c.did.new.sheet ok c.in_err-did.ensures.answer (never_done _) c.in_err-did.ensures.kept in
    rw (p.1, p.2) refused

pub returns : goal.returns
returns c =
    let ok = sym c.in_order.ensures ∙ c.if-not-in_order.false in
    day_taken c.args.date c.args.call (Ok c.in_ok-did.field-0) c.did.new.sheet ok c.in_ok-did.ensures.answer refl c.totals_to-self.ensures
