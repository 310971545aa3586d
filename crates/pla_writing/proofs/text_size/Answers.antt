-- One digit for the marks, one or two for the number of boxes, and lines of one length.
use Prim.Native.Nat.{ℕ, ◌+◌, ◌*◌, ◌≤◌}
use mathlib.Core.Path.{◌≡◌, ap}
use native.Mathlib.Nat.{mul-le-mul}
use native.Mathlib.Omega.{arith}
use lib.ListN.{length}
use Rattle.print.specs.Texts.{decimal}
use Rattle.pla_writing.proofs.Laws.{lines_length, text_length, one_digit, two_digits}
use Rattle.pla_writing.proofs.text_size.Goals as goal
use Rattle.pla_writing.proofs.text_size.Goals.{After-row_known-1, else-k-lt10, then-k-lt10}

digits : (c : After-row_known-1) → (length (decimal c.args.k) ≡ c.if-k-lt10.digits) × (c.if-k-lt10.digits ≤ 2)
digits c =
    let k = c.args.k in
    (elim c.if-k-lt10.branch [ then-k-lt10 w ↦ (omega (arith, w.digits-is, one_digit k w.if-k-lt10.true), omega (arith, w.digits-is)) | else-k-lt10 w ↦ (omega (arith, w.digits-is, two_digits k w.if-k-lt10.false (omega (arith, c.requires.1))), omega (arith, w.digits-is)) ])

small : (c : After-row_known-1) → c.args.k * (c.args.m + 3) ≤ 128
small c = mul-le-mul {n₂ = 16} {m₂ = 8} c.requires.1 (omega arith)

pub overflow_add-result : goal.overflow_add-result
overflow_add-result c = omega (arith, digits c)

pub overflow_mul-result : goal.overflow_mul-result
overflow_mul-result c = omega (arith, small c)

pub overflow_add-result-3 : goal.overflow_add-result-3
overflow_add-result-3 c = omega (arith, small c, digits c)

pub returns : goal.returns
returns c l e =
    omega (
      arith,
      text_length c.args.m l,
      one_digit c.args.m (omega arith),
      digits c,
      ap (λ (n : ℕ). length (decimal n)) e,
      lines_length c.args.m l,
      ap (λ (n : ℕ). n * (c.args.m + 3)) e,
    )
