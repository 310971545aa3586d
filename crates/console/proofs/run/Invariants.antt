-- What was read is taken, and what it prints is written; a read brings at most as many lines as bytes.
use Rattle.std.proofs.Common.{◌≤◌, ◌+◌, ◌*◌}
use Rattle.console.specs.Serves.{Runs}
use Rattle.console.proofs.run.Given as goal

abbrev pub invariant-loop-read : goal.invariant-loop-read
invariant-loop-read g l =
    let left = g.R.Read.remaining in
    let held = g.W.Write.contents in
    (l.session.line.number ≤ 1 + l.read * 4096) × Runs g.P.Program.kind l.session (left l.initial.input) (left l.input) (held l.initial.output) (held l.output)
