-- A class has a list: in an area with room for every shortest one, a sheet that is fit for the list gets neither 5 nor 7. What is laid is read back.
use Prim.Native.Nat.{ℕ, ◌-◌, ◌≤◌}
use mathlib.Core.Path.{refl, sym, ap, ◌∙◌, ◌≡◌}
use mathlib.Core.Bool.{Bool}
use mathlib.Core.List.{List}
use native.Mathlib.Omega.{arith}
use lib.ListN.{length, take, drop, length-append}
use lib.Pow.{pow_mono}
use lib.Seq.{take_at}
use Rattle.lists.specs.Lists.{Small, most_lines}
use Rattle.lists.proofs.Exist.{at_most}
use Rattle.sheet.specs.Limits.{most_marks}
use Rattle.sheet.specs.Record.{in_class, not_out}
use Rattle.sheet.specs.Sound.{ClassReady, record_of}
use Rattle.sheet.specs.declared.Sheet.{Sheet}
use Rattle.sheet.specs.Told.{Value}
use Rattle.sheet.proofs.Told.{in-low}
use Rattle.listing.specs.Listing.{Laid, Listed}

-- no class that counts tell has a number that is no combination
pub class_small : (s : Sheet) → Small s.marks (in_class (record_of s))
class_small s = in-low s

pub list_laid : {most : ℕ} {s : Sheet} {area later : List ℕ} {v : Value} → Listed most s area v later → ClassReady most s → most_lines s.marks ≤ length area
    → (v.number ≡ 0) × Laid s.marks (in_class (record_of s)) (not_out (record_of s)) area v.value later
list_laid (Listed.spoiled n) ready long = absurd (n ready)
list_laid (Listed.short w short) ready long = absurd (omega arith)
list_laid (Listed.given w fits l) ready long = (refl, l)

-- an area for the most marks is one for fewer
pub lines_fit : (m : ℕ) → m ≤ most_marks → most_lines m ≤ most_lines most_marks
lines_fit m l = pow_mono {i = m - 1} {j = most_marks - 1} (omega (arith, l))

module _ {m n : ℕ} {need room : ℕ → Bool} {area later : List ℕ} (l : Laid m need room area n later) where
  pub laid_few : Small m need → n ≤ most_lines m
  laid_few small = omega (arith, l.size, at_most m small l.right)

  pub laid_inside : n ≤ length later
  laid_inside = omega (arith, l.size, ap length l.stands, length-append l.list (drop (length l.list) area))

  pub laid_is : take n later ≡ l.list
  laid_is = ap (take n) l.stands ∙ take_at l.list (drop (length l.list) area) n (sym l.size)
