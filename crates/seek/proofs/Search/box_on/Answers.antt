-- The number of the box through c is that of two single boxes added (`through-or`), and the table has these.
use mathlib.Core.Path.{◌≡◌, sym, ap₂, ◌∙◌}
use mathlib.Core.List.{List}
use Prim.Native.Nat.{ℕ, ◌+◌, ◌<◌, ◌≤◌, ◌^◌}
use native.Mathlib.Omega.{arith}
use lib.Bits.{bit_or, or_lt}
use lib.Pow.{pow_mono}
use Rattle.boxes.specs.Boxes.{through}
use Rattle.boxes.proofs.Numbers.{boxes_mono}
use Rattle.boxes.proofs.Choices.{through-lt, through-or}
use Rattle.sets.specs.Sets.{set_marks, value_at, Singles}
use Rattle.seek.proofs.Search.box_on.Goals as goal

below : (m c : ℕ) → m ≤ set_marks → c < 2 ^ m → c < 32
below m c h l = let p : 2 ^ m ≤ 2 ^ set_marks = pow_mono h in omega arith

both : (m c t : ℕ) → m ≤ set_marks → c < 2 ^ m → t < 2 ^ m → bit_or c t < 32
both m c t h l q = below m (bit_or c t) h (or_lt m c t l q)

added : (m c t : ℕ) (singles : List ℕ) → Singles m singles → c < 2 ^ m → t < 2 ^ m → value_at singles (bit_or c t) + value_at singles t ≡ through m c t
added m c t singles s l q = ap₂ (λ (x y : ℕ). x + y) (s (bit_or c t) (or_lt m c t l q)) (s t q) ∙ sym (through-or m c t)

pub offset_bounds-self-c : goal.offset_bounds-self-c
offset_bounds-self-c c = omega (arith, both _ _ _ c.args.self.now.few c.requires.c_in_bounds c.requires.free_in_bounds)

pub bounds-self-c : goal.bounds-self-c
bounds-self-c c = both _ _ _ c.args.self.now.few c.requires.c_in_bounds c.requires.free_in_bounds

pub bounds-self-free : goal.bounds-self-free
bounds-self-free c = below _ _ c.args.self.now.few c.requires.free_in_bounds

pub overflow_add-result : goal.overflow_add-result
overflow_add-result c =
    let a = c.args.self.now in
    rw (added a.marks c.args.c c.args.free a.singles.now a.of_singles c.requires.c_in_bounds c.requires.free_in_bounds)
    (omega (arith, through-lt a.marks c.args.c c.args.free, boxes_mono a.few))

pub returns-clause-is_through : goal.returns-clause-is_through
returns-clause-is_through c =
    let a = c.args.self.now in added a.marks c.args.c c.args.free a.singles.now a.of_singles c.requires.c_in_bounds c.requires.free_in_bounds

pub returns-clause-within : goal.returns-clause-within
returns-clause-within c =
    let a = c.args.self.now in
    rw (added a.marks c.args.c c.args.free a.singles.now a.of_singles c.requires.c_in_bounds c.requires.free_in_bounds)
    (through-lt a.marks c.args.c c.args.free, omega (arith, through-lt a.marks c.args.c c.args.free, boxes_mono a.few))
