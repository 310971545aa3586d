-- Powers: one more, a digit in front of a number below one, and that those of 3 rise.
use Prim.Native.Nat.{ℕ, ◌+◌, ◌*◌, ◌^◌, ◌<◌, ◌≤◌}
use mathlib.Core.Path.{◌≡◌, ◌∙◌, ap}
use native.Mathlib.Nat.{pow-suc, add-mul, mul_comm, mul-le-mul_right, pow-le-pow_right}
use native.Mathlib.Numerals.{add-one}
use native.Mathlib.Omega.{arith}
use lib.Dec.{lit<}

pub power_next : (B i : ℕ) → B ^ (i + 1) ≡ B ^ i * B
power_next B i = ap (λ (n : ℕ). B ^ n) (add-one i) ∙ pow-suc B i

pub digit_lt : (B i v x : ℕ) → v < B → x < B ^ i → v * B ^ i + x < B ^ (i + 1)
digit_lt B i v x lv lx =
    let s : (v + 1) * B ^ i ≤ B * B ^ i = mul-le-mul_right (B ^ i) (omega arith) in
    omega (arith, add-mul v 1 (B ^ i), power_next B i, mul_comm B (B ^ i))

-- over more marks there are more boxes, as there are more combinations (`pow_mono` of the library)
pub boxes_mono : {m n : ℕ} → m ≤ n → 3 ^ m ≤ 3 ^ n
boxes_mono h = pow-le-pow_right {n = 3} (lit< tt) h
