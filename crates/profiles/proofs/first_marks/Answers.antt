use Rattle.std.proofs.Common.{◌≡◌, sym, ◌∙◌, ◌*◌, ◌%◌, ◌^◌, ◌≤◌, arith}
use native.Mathlib.Nat.{mod-eq_of_lt}
use lib.Bits.{and_mask}
use lib.Pow.{pow_mono}
use Rattle.profiles.proofs.first_marks.Goals as goal

pub returns-then-m-lt64 : goal.returns-then-m-lt64
returns-then-m-lt64 c = λ x h.
    let few : 2 ^ c.args.m ≤ 2 ^ 63 = pow_mono {i = c.args.m} {j = 63} (omega arith) in
    let e : 1 * 2 ^ c.args.m % 2 ^ 64 ≡ 2 ^ c.args.m = omega arith in
    rw e (and_mask x c.args.m)

-- every number has marks below 64 alone
pub returns : goal.returns
returns c = λ x h.
    let all : 2 ^ 64 ≤ 2 ^ c.args.m = pow_mono {i = 64} {j = c.args.m} (omega arith) in
    and_mask x 64 ∙ mod-eq_of_lt h ∙ sym (mod-eq_of_lt (omega arith))
