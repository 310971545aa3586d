-- A shift by i is a product with 2^i, and a number below 2^i shares no bit with it.
use Prim.Native.Nat.{ℕ, ◌+◌, ◌^◌, ◌<◌}
use mathlib.Core.Path.{◌∙◌, ap, subst, sym}
use native.Mathlib.Omega.{arith}
use lib.Pow.{shl_exact}
use lib.Bits.{bit_or, or_shifted_r}
use Rattle.boxes.proofs.Numbers.{digit_lt}
use Rattle.boxes.proofs.with_mark.Goals as goal

pub returns : goal.returns
returns c =
    let a = c.args in
    let e = ap (bit_or a.x) (shl_exact 1 a.i 64 c.requires.2 (omega arith)) ∙ or_shifted_r a.v a.i a.x c.requires.1 in
    (e, subst (λ (n : ℕ). n < 2 ^ (a.i + 1)) (sym e) (digit_lt 2 a.i a.v a.x c.requires.2 c.requires.1))
