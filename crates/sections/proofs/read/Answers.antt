-- A count, and what it counts.
use Rattle.std.proofs.Common.{refl}
use Rattle.std.specs.Prelude.{Ok, Err}
use Rattle.sections.proofs.Refused.{passed_on}
use Rattle.sections.proofs.Offsets.{fits_behind}
use Rattle.sections.proofs.Entries.{count_taken, count_missed, part_after}
use Rattle.sections.proofs.read.Goals as goal

pub returns-in_err-count-clause-read : goal.returns-in_err-count-clause-read
returns-in_err-count-clause-read c =
    passed_on _ _ c.from_residual.result _ c.from_residual.ensures.1
    (record { stops = λ rest r b. count_missed c.args.section rest r b.marks (rw c.power2.ensures.0 at c.in_err-count.ensures.read) })

pub returns-in_err-own-clause-read : goal.returns-in_err-own-clause-read
returns-in_err-own-clause-read c =
    let f = c.args.form.now in
    let count = rw c.power2.ensures.0 at c.in_ok-count.ensures.read in
    passed_on _ _ c.from_residual-in_err-own.result _ c.from_residual-in_err-own.ensures.1
    (part_after c.args.section c.args.barred.now f (record { marks = f.marks; fields = c.field.new.self; few = f.few }) refl (fits_behind count)
    (λ rest r b. count_taken c.args.section rest r b.marks count) c.read_entries.new.form (Err c.in_err-own.field-0.0) c.in_err-own.ensures)

pub returns-clause-read : goal.returns-clause-read
returns-clause-read c =
    let f = c.args.form.now in
    let count = rw c.power2.ensures.0 at c.in_ok-count.ensures.read in
    part_after c.args.section c.args.barred.now f (record { marks = f.marks; fields = c.field.new.self; few = f.few }) refl (fits_behind count)
    (λ rest r b. count_taken c.args.section rest r b.marks count) c.read_entries.new.form (Ok c.in_ok-own.own) c.in_ok-own.ensures
