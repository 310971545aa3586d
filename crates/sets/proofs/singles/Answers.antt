-- Over fewer marks the boxes of the combinations are the same.
use Rattle.std.proofs.Common.{◌^◌, ◌≤◌, ◌∙◌, arith}
use lib.Pow.{pow_mono}
use Rattle.boxes.proofs.Choices.{through_wide}
use Rattle.sets.specs.Sets.{set_marks}
use Rattle.sets.proofs.singles.Goals as goal

pub returns : goal.returns
returns c = λ m h k lk.
    let p : 2 ^ m ≤ 2 ^ set_marks = pow_mono h in
    c.loop-c.invariant k (omega arith) ∙ through_wide m set_marks k 0 h lk (omega arith)
