-- What stands in front of the rest is taken, and what it prints is written; each call takes at least one byte more.
use Rattle.std.proofs.Common.{◌≡◌, length, ◌++◌, List, ℕ}
use Rattle.machine.specs.Pieces.{Position}
use Rattle.sessions.specs.Sessions.{room, At}
use Rattle.console.specs.Serves.{Passed}
use Rattle.console.proofs.serve.Given as goal

abbrev pub invariant-loop-rest : goal.invariant-loop-rest
invariant-loop-rest g l =
    let k = g.P.Program.kind in
    let contents = g.W.Write.contents in
    (room ≡ length l.out) × (taken : List ℕ) × (l.piece ≡ taken ++ l.rest)
    × ((p : Position k.machine) → At k l.initial.session p → Passed k p taken l.session (contents l.initial.output) (contents l.output))

abbrev pub decreases-loop-rest : goal.decreases-loop-rest
decreases-loop-rest g l = length l.rest
