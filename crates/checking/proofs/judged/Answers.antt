-- Fault by fault: what is not found is nowhere in the list, and what is found is the first.
use Rattle.std.proofs.Common.{rules}
use native.Mathlib.Omega.{arith}
use Rattle.std.proofs.lemmas.Result.{err_from_is_err_and}
use Rattle.sets.specs.Sets.{has}
use Rattle.checking.proofs.Faults.{Without, no_box_at, all_boxes, each_box, overlap_at, all_apart, leaves_at, all_inside, uncovered_at, all_covered}
use Rattle.checking.proofs.Unions.{missed_lowest, missed_none}
use Rattle.checking.proofs.judged.Goals as goal
use Rattle.checking.proofs.judged.Goals.{In_default-leaving}

inside : (c : In_default-leaving) → Without c.args.m (has c.args.told.need) (has c.args.told.room) c.args.list.now 4
inside c = all_inside _ _ _ _ (all_apart _ _ _ _ (all_boxes _ _ _ _ c.in_default.ensures) c.in_ok-covered.ensures.apart) c.in_default-leaving.ensures

pub returns-in-Some : goal.returns-in-Some
returns-in-Some c = no_box_at _ _ _ _ _ c.in-Some.ensures

pub united-requires : goal.united-requires
united-requires c = (c.requires, c.sets-sets.ensures _ c.requires, each_box _ (has c.args.told.need) (has c.args.told.room) _ c.in_default.ensures)

pub returns-in_err-covered : goal.returns-in_err-covered
returns-in_err-covered c =
    let p = err_from_is_err_and c.from_residual.result c.from_residual.ensures.1 in
    let e = c.in_err-covered.ensures in
    rw (p.1, p.2) (overlap_at _ _ _ _ (all_boxes _ _ _ _ c.in_default.ensures) _ _ e.0 e.1)

pub leaving-requires : goal.leaving-requires
leaving-requires c = (c.requires, c.sets-sets.ensures _ c.requires, each_box _ (has c.args.told.need) (has c.args.told.room) _ c.in_default.ensures)

pub returns-in-Some-leaving : goal.returns-in-Some-leaving
returns-in-Some-leaving c = leaves_at _ _ _ _ (all_apart _ _ _ _ (all_boxes _ _ _ _ c.in_default.ensures) c.in_ok-covered.ensures.apart) _ c.in-Some-leaving.ensures

pub returns-then-missed-ne0 : goal.returns-then-missed-ne0
returns-then-missed-ne0 c =
    let x = missed_lowest _ _ _ (search rules) _ c.in_ok-covered.ensures (omega arith) in
    uncovered_at _ _ _ _ (inside (goal.at.returns-then-missed-ne0 c).In_default-leaving) _ x.0 x.1

pub returns : goal.returns
returns c = all_covered _ _ _ _ (inside (goal.at.returns c).In_default-leaving) (missed_none _ _ _ (search rules) _ c.in_ok-covered.ensures (omega arith))
