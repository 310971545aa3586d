-- Each way out is the law of what was tested.
use Rattle.std.proofs.Common.{◌<◌, arith}
use Rattle.pla_lines.proofs.Numbers.{told_more, number_read, number_empty, number_other, number_zero}
use Rattle.pla_lines.proofs.sayings.read_number.Goals as goal

pub returns-then-is_empty : goal.returns-then-is_empty
returns-then-is_empty c = number_empty _ (grind arith)

pub returns-then-c-lt48 : goal.returns-then-c-lt48
returns-then-c-lt48 c = number_other _ c.loop-i.i (omega arith) (λ w. grind (arith, c.then-c-lt48.either, w))

pub returns-then-n-eq0 : goal.returns-then-n-eq0
returns-then-n-eq0 c =
    let l = c.loop-i in
    number_zero _ l.i l.n l.invariant (omega arith) (omega arith) (omega arith)

pub loop-i-preserved : goal.loop-i-preserved
loop-i-preserved c =
    let l = c.loop-i in
    let plain : 0 < l.i → 0 < l.n = λ h. grind arith in
    rw c.grown-n.ensures (told_more _ l.i l.n l.invariant (omega arith) (omega arith) (omega arith) plain)

pub returns : goal.returns
returns c = let l = c.loop-i in number_read _ l.i l.n l.invariant (omega arith) (grind arith)
