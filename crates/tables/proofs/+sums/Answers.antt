use Rattle.std.proofs.Common.{◌≡◌, refl, subst, ℕ, suc, ◌+◌, ◌-◌, ◌^◌, arith}
use borrow.Author.Tests.{eqb-true, eq-eqb}
use Rattle.ground.proofs.Cases.{decided_yes, decided_no, denied}
use Rattle.ground.specs.Decides.{Decides}
use Rattle.tables.specs.Tables.{entry, Sums}
use Rattle.tables.proofs.Thirds.{Parted, parted, sums_none, added_one, one_added, parts_sums, sums_low, sums_high, sums_both}
use Rattle.tables.proofs.+sums.Goals as goal
use Rattle.tables.proofs.+sums.Goals.{After-split_at-2}

-- the parts are those of a table over one mark more
parts : (t : ℕ) (c : After-split_at-2 t) → Parted (3 ^ (c.args.m - 1)) c.args.t.now c.split_at.result.0.now c.split_at-2.result.0.now c.split_at-2.result.1.now
parts t c = rw (c.split_at-2.ensures.front, c.split_at-2.ensures.back, c.split_at.ensures.front, c.split_at.ensures.back, c.third-p.ensures.power) (parted (3 ^ (c.args.m - 1)) c.args.t.now)

more : (t : ℕ) (c : After-split_at-2 t) → suc (c.args.m - 1) ≡ c.args.m
more t c = omega arith

pub returns-then-m-eq0 : goal.returns-then-m-eq0
returns-then-m-eq0 t c = decided_yes refl (rw c.if-m-eq0.true (sums_none (entry c.args.t.now)))

pub returns-then-m-eq1 : goal.returns-then-m-eq1
returns-then-m-eq1 t c =
    let both = c.from-then-m-eq1.result + c.from-then-m-eq1-2.result in
    record {
      yes = λ e. added_one c.args.m (entry c.args.t.now) c.if-m-eq1.true (omega (arith, eqb-true c.from.result both e));
      sure = λ s. eq-eqb c.from.result both (omega (arith, one_added c.args.m (entry c.args.t.now) c.if-m-eq1.true s));
    }

pub returns-then-not-sums : goal.returns-then-not-sums
returns-then-not-sums t c =
    let at = (goal.at.returns-then-not-sums t c).After-split_at-2 in
    decided_no refl (λ s. denied c.sums.ensures c.if-not-sums.true (sums_low (c.args.m - 1) (parts t at) (rw (more t at) s)))

pub returns-then-not-sums-2 : goal.returns-then-not-sums-2
returns-then-not-sums-2 t c =
    let at = (goal.at.returns-then-not-sums-2 t c).After-split_at-2 in
    decided_no refl (λ s. denied c.sums-2.ensures c.if-not-sums-2.true (sums_high (c.args.m - 1) (parts t at) (rw (more t at) s)))

pub returns : goal.returns
returns t c =
    let at = (goal.at.returns t c).After-split_at-2 in
    let w = parts t at in
    subst (λ (n : ℕ). Decides c.are_sums.result (Sums n (entry c.args.t.now))) (more t at)
    record {
      yes = λ e. parts_sums (c.args.m - 1) w (omega arith) (c.sums.ensures.yes c.if-not-sums.false) (c.sums-2.ensures.yes c.if-not-sums-2.false) (c.are_sums.ensures.yes e);
      sure = λ s. c.are_sums.ensures.sure (sums_both (c.args.m - 1) w (omega arith) s);
    }
