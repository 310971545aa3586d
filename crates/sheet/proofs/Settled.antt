-- No two answers meet the contract of a call.
use Prim.Native.Nat.{ℕ}
use mathlib.Core.Path.{◌≡◌, refl, sym, ◌∙◌}
use mathlib.Core.List.{List}
use Rattle.sheet.specs.declared.Sheet.{Sheet}
use Rattle.sheet.specs.Told.{Answer, Value}
use Rattle.sheet.specs.Answers.{open_of, open_under_of, ClassSize, spoiled, told}

pub open_settled : (most n m : ℕ) (a z : Answer) → a ≡ open_of most n m → z ≡ open_of most n m → a ≡ z
open_settled most n m a z p q = p ∙ sym q

pub open_under_settled : (most n m : ℕ) (groups : List ℕ) (a z : Answer) → a ≡ open_under_of most n m groups → z ≡ open_under_of most n m groups → a ≡ z
open_under_settled most n m groups a z p q = p ∙ sym q

pub size_settled : {most : ℕ} {s : Sheet} {a z : Value} → ClassSize most s a → ClassSize most s z → a ≡ z
size_settled (spoiled p) (spoiled q) = refl
size_settled (spoiled p) (told q) = absurd (p q)
size_settled (told p) (spoiled q) = absurd (q p)
size_settled (told p) (told q) = refl
