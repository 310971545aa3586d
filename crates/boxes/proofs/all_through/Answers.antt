use Rattle.std.proofs.Common.{◌≡◌, sym, ap, ap₂, ◌∙◌, ℕ, ◌+◌, ◌*◌, ◌-◌, ◌/◌, ◌%◌, ◌^◌, ◌<◌, arith, get_or}
use lib.Pow.{pow_mono}
use Rattle.ground.proofs.Cases.{below_or}
use Rattle.boxes.specs.Boxes.{through}
use Rattle.boxes.proofs.Choices.{through-lt, through_more}
use Rattle.boxes.proofs.Numbers.{boxes_mono, power_next}
use Rattle.boxes.proofs.all_through.Goals as goal

-- what a turn does: mark i free as well raises each number so much
raised : (m c i v p : ℕ) → v ≡ c / 2 ^ i % 2 → p ≡ 3 ^ i → i < m → (t : ℕ) → t < 2 ^ i → through m c t + (2 - v) * p ≡ through m c (2 ^ i + t)
raised m c i v p ev ep l t h = ap₂ (λ (x y : ℕ). through m c t + (2 - x) * y) ev ep ∙ sym (through_more m c i t l h)

pub overflow_cast-all : goal.overflow_cast-all
overflow_cast-all c = omega (arith, boxes_mono {m = c.args.m} {n = 8} c.requires)

pub double-requires : goal.double-requires
double-requires c = grind (arith, pow_mono, through-lt, boxes_mono, power_next)

pub loop-i-preserved : goal.loop-i-preserved
loop-i-preserved c =
    let l = c.loop-i in
    let v = c.mark in
    let p = c.power3 in
    let d = c.double.ensures in
    λ t h. below_or t (2 ^ l.i)
    (λ q. d.first t (omega arith) ∙ l.invariant t q)
    (λ q.
    let u = t - 2 ^ l.i in
    let g : u < 2 ^ l.i = omega (arith, power_next 2 l.i) in
    let e : t ≡ c.power2.result + u = omega arith in
    let f : 2 ^ l.i + u ≡ t = omega arith in
    ap (λ (k : ℕ). get_or c.double.new.xs k 0) e
    ∙ d.second u (omega arith)
    ∙ ap (λ (x : ℕ). x + (2 - v.result) * p.result) (l.invariant u g)
    ∙ raised c.args.m c.args.c l.i v.result p.result v.ensures.0 p.ensures.0 c.loop-i-test.true u g
    ∙ ap (through c.args.m c.args.c) f)
