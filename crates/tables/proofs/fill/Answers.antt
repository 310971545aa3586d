use Rattle.std.proofs.Common.{◌≡◌, ap, ◌∙◌, ◌-◌, ◌^◌, replicate, length, arith, ℕ}
use Rattle.tables.proofs.Thirds.{sums_behind}
use Rattle.tables.proofs.fill.Goals as goal

pub returns : goal.returns
returns c =
    let n : length c.split_at_mut-of_boxes.result.1.now ≡ length c.args.t.now - 3 ^ c.args.m = omega arith in
    sums_behind (length c.args.t.now) c.args.m c.args.own.now c.fill_boxes.new.t c.fill.new.self (omega arith) c.fill_boxes.ensures
    (c.fill.ensures.after (λ y e. e) ∙ ap (λ (k : ℕ). replicate k 0) n) (omega arith)
