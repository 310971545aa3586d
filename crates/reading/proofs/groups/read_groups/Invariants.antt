-- The run has led over the groups that were read.
use Rattle.std.proofs.Common.{◌≡◌, ◌-◌}
use Rattle.reading.proofs.Carried.{GroupsReached}
use Rattle.reading.proofs.groups.read_groups.Given as goal

abbrev pub invariant-loop : goal.invariant-loop
invariant-loop l = (l.form.marks ≡ l.initial.form.marks) × GroupsReached l.initial.form.marks l.n l.initial.form.fields l.form.fields l.profile (l.n - l.counter)
