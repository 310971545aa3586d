use Rattle.std.proofs.Common.{◌≡◌, sym, subst, ℕ, suc, ◌+◌, ◌-◌, ◌^◌, ◌++◌, take, drop, arith}
use Rattle.boxes.specs.Boxes.{sum_in, all_free}
use Rattle.boxes.proofs.Boxes.{sum_in-le-all}
use Rattle.tables.specs.Tables.{entry}
use Rattle.tables.specs.Thirds.{SumsOf}
use Rattle.tables.proofs.Thirds.{sums_one, sums_three, sums_joined, whole_halves, whole_one}
use Rattle.tables.proofs.+fill_boxes.Goals as goal
use Rattle.tables.proofs.+fill_boxes.Goals.{After-split_at}

-- the sum of all is that of the two halves
halves : (t : ℕ) (c : After-split_at t)
    → let k = c.args.m - 1 in
    sum_in c.args.m (all_free c.args.m) (entry c.args.own.now) ≡ sum_in k (all_free k) (entry c.split_at.result.0.now) + sum_in k (all_free k) (entry c.split_at.result.1.now)
halves t c =
    let k = c.args.m - 1 in
    let e : c.args.m ≡ suc k = omega arith in
    rw (c.split_at.ensures.front, c.split_at.ensures.back, c.half.ensures.power)
    (subst (λ (n : ℕ). sum_in n (all_free n) (entry c.args.own.now) ≡ sum_in k (all_free k) (entry (take (2 ^ k) c.args.own.now)) + sum_in k (all_free k) (entry (drop (2 ^ k) c.args.own.now))) (sym e)
    (whole_halves k c.args.own.now))

pub returns-then-m-eq0 : goal.returns-then-m-eq0
returns-then-m-eq0 t c = sums_one c.args.m c.args.own.now c.args.t.now c.if-m-eq0.true (omega arith)

pub overflow_add-t : goal.overflow_add-t
overflow_add-t t c = record { fits = omega (arith, whole_one c.args.m c.args.own.now c.if-m-eq1.true, c.requires.own_bound) }

pub returns-then-m-eq1 : goal.returns-then-m-eq1
returns-then-m-eq1 t c = sums_three c.args.m c.args.own.now c.args.t.now c.if-m-eq1.true (omega arith)

pub fill_boxes-requires : goal.fill_boxes-requires
fill_boxes-requires t c =
    let all = halves t (goal.at.fill_boxes-requires t c).After-split_at in
    (omega arith, ((omega arith, omega arith, omega arith), omega (arith, all)))

pub fill_boxes-requires-2 : goal.fill_boxes-requires-2
fill_boxes-requires-2 t c =
    let all = halves t (goal.at.fill_boxes-requires-2 t c).After-split_at in
    (omega arith, ((omega arith, omega arith, omega arith), omega (arith, all)))

pub join-requires-clause-few_each : goal.join-requires-clause-few_each
join-requires-clause-few_each t c = λ b l.
    let k = c.args.m - 1 in
    let off = entry c.split_at.result.0.now in
    let on = entry c.split_at.result.1.now in
    omega (arith, halves t (goal.at.join-requires-clause-few_each t c).After-split_at, c.fill_boxes.ensures b (omega arith), c.fill_boxes-2.ensures b (omega arith), sum_in-le-all k b off, sum_in-le-all k b on)

pub returns : goal.returns
returns t c =
    let k = c.args.m - 1 in
    let e : suc k ≡ c.args.m = omega arith in
    let own = c.args.own.now in
    subst (λ (n : ℕ). SumsOf n own (c.fill_boxes.new.t ++ (c.fill_boxes-2.new.t ++ c.join.new.free))) e
    (sums_joined k own c.fill_boxes.new.t c.fill_boxes-2.new.t c.join.new.free (omega arith) (omega arith)
    (rw (← c.half.ensures.power, ← c.split_at.ensures.front) c.fill_boxes.ensures)
    (rw (← c.half.ensures.power, ← c.split_at.ensures.back) c.fill_boxes-2.ensures)
    c.join.ensures)
