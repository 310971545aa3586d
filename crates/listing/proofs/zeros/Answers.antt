use Prim.Native.Nat.{ℕ, ◌<◌}
use mathlib.Core.Path.{◌≡◌, sym, ◌∙◌, ap}
use native.Mathlib.Omega.{arith}
use native.Mathlib.Nat.{pow-le-pow_right}
use lib.Pow.{shl_exact}
use lib.Dec.{eqb, lit<}
use lib.Bits.{bit_or, or_shifted_r}
use borrow.Author.Tests.{eq-eqb, ne_eqb}
use Rattle.listing.proofs.Filled.{filled_none, filled_in, filled_out}
use Rattle.tables.specs.Tables.{entry, own}
use Rattle.listing.proofs.zeros.Goals as goal
use Rattle.listing.proofs.zeros.Goals.{In-loop-c}

few : (c : In-loop-c) → c.loop-c.c < 32
few c = omega (arith, c.loop-c.invariant.0, pow-le-pow_right {n = 2} (omega arith) {i = c.args.m} {j = 5} (omega arith))

pub loop-c-init : goal.loop-c-init
loop-c-init c = (c.power2-c-end.ensures.0, filled_none _)

pub overflow_shl-set : goal.overflow_shl-set
overflow_shl-set c = few (goal.at.overflow_shl-set c).In-loop-c

pub loop-c-preserved : goal.loop-c-preserved
loop-c-preserved c =
    let l = c.loop-c in
    let a = c.args in
    let here : entry a.t.now c.single.result ≡ own a.m a.t.now l.c = ap (entry a.t.now) c.single.ensures.0 in
    let put = ap (bit_or l.set) (shl_exact 1 l.c 32 (lit< tt) (omega (arith, few (goal.at.loop-c-preserved c).In-loop-c))) ∙ or_shifted_r 1 l.c l.set l.invariant.1.small in
    let zero = λ (h : entry a.t.now c.single.result ≡ 0). filled_in l.invariant.1 (ap (λ (x : ℕ). eqb x 0) (sym here) ∙ eq-eqb _ 0 h) in
    let more = λ (h : entry a.t.now c.single.result ≡ 0 → ⊥). filled_out l.invariant.1 (ap (λ (x : ℕ). eqb x 0) (sym here) ∙ ne_eqb _ 0 h) in
    (l.invariant.0, grind (arith, put, zero, more))
