-- Another length or another byte is no cube.
use Rattle.std.proofs.Common.{◌≡◌, ℕ, arith, subst}
use Rattle.pla_lines.proofs.Cubes.{Signs, signs_none, signs_more, box_small, cube_read, cube_long, cube_other, signed, unsigned}
use Rattle.pla_lines.proofs.sayings.read_cube.Goals as goal

pub returns-then-word-m : goal.returns-then-word-m
returns-then-word-m c = cube_long _ _ (omega arith)

pub loop-sign-init : goal.loop-sign-init
loop-sign-init c = (omega arith, signs_none _)

pub overflow_mul-b : goal.overflow_mul-b
overflow_mul-b c = let l = c.loop-sign in omega (arith, box_small l.sign-index l.b l.invariant.1.small (omega arith))

pub returns-in_err-b : goal.returns-in_err-b
returns-in_err-b c = rw c.from_residual.ensures (cube_other _ _ c.loop-sign.sign-index (omega arith) (unsigned c.in_err-b.ensures))

pub overflow_add-b : goal.overflow_add-b
overflow_add-b c =
    let l = c.loop-sign in
    omega (arith, box_small l.sign-index l.b l.invariant.1.small (omega arith), (signed c.in_ok-b.ensures).0)

pub loop-sign-preserved : goal.loop-sign-preserved
loop-sign-preserved c =
    let l = c.loop-sign in
    let d = signed c.in_ok-b.ensures in
    (l.invariant.0, signs_more _ l.sign-index l.b _ l.invariant.1 (omega arith) d.0 d.1)

pub returns : goal.returns
returns c =
    let l = c.loop-sign in
    let a = c.args in
    let e : l.sign-index ≡ a.m = omega arith in
    cube_read _ a.m l.b (subst (λ (i : ℕ). Signs a.word.now i l.b) e l.invariant.1) l.invariant.0
