-- What was read is taken, and what it prints is written; a read brings at least one byte, and at most as many lines as bytes.
use Rattle.std.proofs.Common.{◌≤◌, ◌+◌, ◌*◌, length}
use Rattle.console.specs.Serves.{Runs}
use Rattle.console.proofs.run_until_used_up.Given as goal

abbrev pub invariant-loop-turn : goal.invariant-loop-turn
invariant-loop-turn g l =
    let left = g.R.Read.remaining in
    let held = g.W.Write.contents in
    (l.session.line.number ≤ 1 + l.turn * 4096)
    × (r : Runs g.P.Program.kind l.session (left l.initial.input) (left l.input) (held l.initial.output) (held l.output)) × (l.turn ≤ length r.input)
