-- The marks that count are looked up, four at a time.
use Rattle.std.proofs.Common.{◌≡◌, ap, ap₂, ◌∙◌, ℕ, ◌+◌, ◌*◌, ◌-◌, ◌%◌, ◌^◌}
use native.Mathlib.Nat.{mod-lt}
use lib.Bits.{bit_and, and_mask}
use lib.Pow.{pow_pos}
use Rattle.boxes.proofs.Looked.{looked, single_at, single_low}
use Rattle.boxes.proofs.Choices.{through-lt}
use Rattle.boxes.proofs.single.Goals as goal

pub returns : goal.returns
returns c =
    let a = c.args in
    let below : bit_and a.c (c.power2.result - 1) ≡ a.c % 2 ^ a.m = ap (λ (n : ℕ). bit_and a.c (n - 1)) c.power2.ensures.0 ∙ and_mask a.c a.m in
    let e = ap₂ (λ (x y : ℕ). x + y * 81) c.from.ensures c.from-2.ensures ∙ ap looked below ∙ single_at a.m (a.c % 2 ^ a.m) c.requires (mod-lt a.c (pow_pos a.m)) ∙ single_low a.m a.c in
    (e, rw e (through-lt a.m a.c 0))
