-- No two returns meet the contract of `total`.
use Prim.Native.Nat.{ℕ}
use mathlib.Core.Path.{◌≡◌, refl}
use Rattle.sheet.specs.declared.Sheet.{Sheet}
use Rattle.sheet.specs.Told.{Value}
use Rattle.totals.specs.Totals.{Totalled}

pub total_settled : {most : ℕ} {s : Sheet} {a z : Value} → Totalled most s a → Totalled most s z → a ≡ z
total_settled (Totalled.spoiled p) (Totalled.spoiled q) = refl
total_settled (Totalled.spoiled p) (Totalled.told q) = absurd (p q)
total_settled (Totalled.told p) (Totalled.spoiled q) = absurd (q p)
total_settled (Totalled.told p) (Totalled.told q) = refl
