use Rattle.std.proofs.Common.{◌≡◌, sym, ap, ◌∙◌, ℕ, ◌+◌, ◌*◌, ◌^◌, ◌<◌, ◌≤◌, length, arith}
use lib.Seq.{length-take-le}
use borrow.Author.Count.{below_more}
use Rattle.boxes.specs.Boxes.{through}
use Rattle.boxes.proofs.Choices.{through-lt}
use Rattle.tables.specs.Parts.{fits_moved}
use Rattle.tables.proofs.Moves.{through_taken}
use Rattle.tables.proofs.Touched.{touched_all, touched_no, turn_judged}
use Rattle.tables.proofs.fits_at.Goals as goal
use Rattle.tables.proofs.fits_at.Goals.{After-fits, After-from}

box : (c : After-from) → (c.loop-k.k < 2 ^ c.args.m) × (c.from.result ≡ through c.args.m c.args.c c.loop-k.k)
box c =
    let at = through_taken c.args.m c.args.c c.power2.result c.loop-k.k c.all_through-all.result c.all_through-all.ensures c.power2.ensures.0 (omega arith) c.loop-k-test.true in
    (at.0, c.from.ensures ∙ at.1)

-- the box of this turn
here : (c : After-fits) → (c.loop-k.k < 2 ^ c.args.m) × (c.from.result ≡ through c.args.m c.args.c c.loop-k.k)
    → let a = c.args in
    fits_moved a.m a.by a.t.now a.most a.each (through a.m a.c c.loop-k.k) ≡ c.fits.result
here c b =
    let a = c.args in
    turn_judged a.m a.c c.loop-k.k a.by a.t.now a.most a.each c.from.result _ _ b.0 b.1
    (ap (λ (s : ℕ). a.most + a.each * s) c.power2-size.ensures.0) c.fits.ensures

pub bounds-t-from : goal.bounds-t-from
bounds-t-from c =
    let b = box (goal.at.bounds-t-from c).After-from in
    omega (arith, b.1, through-lt c.args.m c.args.c c.loop-k.k)

pub returns-then-not-fits : goal.returns-then-not-fits
returns-then-not-fits c =
    let at = goal.at.returns-then-not-fits c in
    sym (touched_no c.args.m c.args.c (fits_moved c.args.m c.args.by c.args.t.now c.args.most c.args.each) c.loop-k.k c.requires.over.low (here at.After-fits (box at.After-from) ∙ c.if-not-fits.true))

pub loop-k-preserved : goal.loop-k-preserved
loop-k-preserved c =
    let at = goal.at.loop-k-preserved c in
    below_more _ _ c.loop-k.invariant (here at.After-fits (box at.After-from) ∙ c.if-not-fits.false)

pub returns : goal.returns
returns c =
    let long : c.power2.result ≤ length c.all_through-all.result = omega arith in
    let end = length-take-le c.power2.result c.all_through-all.result long in
    sym (touched_all c.args.m c.args.c (fits_moved c.args.m c.args.by c.args.t.now c.args.most c.args.each) (λ u l. c.loop-k.invariant u (omega (arith, end))))
