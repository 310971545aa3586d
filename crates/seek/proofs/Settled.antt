-- What the search answers is settled: no two answers, a number with the bytes at the front, meet its promise. And it ends: no list that it seeks has more
-- boxes than `most_lines`.
use mathlib.Core.Path.{◌≡◌, sym, ap, ◌∙◌}
use mathlib.Core.Bool.{Bool}
use mathlib.Core.List.{List}
use Prim.Native.Nat.{ℕ, ◌≤◌}
use native.Mathlib.Omega.{arith}
use lib.ListN.{length, take}
use lib.Seq.{length-take-le}
use Rattle.lists.specs.Lists.{AtLeast, Small, Within, most_lines}
use Rattle.lists.proofs.First.{unique}
use Rattle.lists.proofs.Exist.{exists}
use Rattle.seek.specs.Answer.{Sought}

-- where what is needed has room, it is not so that every list has more boxes
pub least_small : (m : ℕ) (need room : ℕ → Bool) (k : ℕ) → Small m need → Within need room → AtLeast m need room k → k ≤ most_lines m
least_small m need room k s h least = let x = exists m need room s h in omega (arith, least x.0 x.1, x.2)

-- NO TWO ANSWERS
pub settled : (m : ℕ) (need room : ℕ → Bool) (n k : ℕ) (xs ys : List ℕ) → Sought m need room n xs → Sought m need room k ys
    → (n ≡ k) × (take n xs ≡ take k ys)
settled m need room n k xs ys f g =
    let e = unique f.1 g.1 in
    (sym (length-take-le n xs f.0) ∙ ap length e ∙ length-take-le k ys g.0, e)
