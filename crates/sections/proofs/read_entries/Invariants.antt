-- Behind each entry the run has led to the next; a field that is missed stops it at its place, and so does a combination that the section does not take.
use Rattle.std.proofs.Common.{◌-◌, ◌^◌, ◌≡◌}
use Rattle.sections.proofs.Entries.{EntriesReached}
use Rattle.sections.proofs.read_entries.Given as goal

abbrev pub invariant-loop : goal.invariant-loop
invariant-loop l =
    (l.top ≡ 2 ^ l.initial.form.marks - 1) × EntriesReached l.section l.initial.form.marks l.barred l.n l.initial.form.fields l.fields l.own l.low (l.n - l.counter) l.sum
