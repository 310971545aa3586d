use Rattle.std.proofs.Common.{◌≡◌, sym, subst, ◌∙◌, ℕ, ◌+◌, ◌^◌, ◌≤◌, length, arith}
use lib.ListN.{set}
use lib.Seq.{length-take-le}
use Rattle.ground.proofs.Cases.{clash}
use Rattle.tables.specs.Tables.{shifted}
use Rattle.tables.specs.Parts.{Bears}
use Rattle.tables.proofs.Moves.{MovedUpTo, Turn, moved-start, moved_turn, moved_all, through_taken}
use Rattle.tables.proofs.Shifts.{moved_stays}
use Rattle.tables.proofs.move_at.Goals as goal
use Rattle.tables.proofs.move_at.Goals.{After-from-b, in-Stays, in_default}

turn : (c : After-from-b)
    → let s = c.args in
    let l = c.loop-b in
    Turn s.m s.c l.b-index (shifted s.by) s.t.now l.t c.from-b.result
turn c =
    let l = c.loop-b in
    let at = through_taken c.args.m c.args.c c.power2.result l.b-index c.all_through-all.result c.all_through-all.ensures c.power2.ensures.0 (omega arith) c.loop-b-test.true in
    moved_turn l.invariant at.0 c.requires.over.low c.requires.over.long _ (c.from-b.ensures ∙ at.1)

pub returns-then-matches : goal.returns-then-matches
returns-then-matches c = (elim c.match-matches.branch [ in-Stays w ↦ rw w.in-Stays.is (moved_stays c.args.m c.args.c c.args.t.now) | in_default w ↦ clash c.if-matches.true w.matches-is ])

pub loop-b-init : goal.loop-b-init
loop-b-init c = moved-start _ _ _ _

pub bounds-t-b : goal.bounds-t-b
bounds-t-b c = (turn (goal.at.bounds-t-b c).After-from-b).inside

pub of-requires : goal.of-requires
of-requires c =
    let w = turn (goal.at.of-requires c).After-from-b in
    subst (Bears c.args.by) (sym w.still) (c.requires.all_bear _ w.touches)

pub bounds-t-b-in-loop-b : goal.bounds-t-b-in-loop-b
bounds-t-b-in-loop-b c = (turn (goal.at.bounds-t-b-in-loop-b c).After-from-b).inside

pub loop-b-preserved : goal.loop-b-preserved
loop-b-preserved c =
    let l = c.loop-b in
    let a = c.args in
    subst (λ (x : ℕ). MovedUpTo a.m a.c (l.b-index + 1) (shifted a.by) a.t.now (set l.t c.from-b.result x)) (sym c.of.ensures) (turn (goal.at.loop-b-preserved c).After-from-b).moves

pub returns : goal.returns
returns c =
    let l = c.loop-b in
    let a = c.args in
    let long : c.power2.result ≤ length c.all_through-all.result = omega arith in
    let e : l.b-index ≡ 2 ^ a.m = omega (arith, length-take-le c.power2.result c.all_through-all.result long) in
    moved_all a.by (subst (λ (k : ℕ). MovedUpTo a.m a.c k (shifted a.by) a.t.now l.t) e l.invariant)
