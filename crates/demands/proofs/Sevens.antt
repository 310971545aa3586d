-- 7 comes as for the list: for a class table that is not sound.
use Prim.Native.Nat.{ℕ}
use mathlib.Core.Path.{◌≡◌, refl}
use mathlib.Core.List.{List}
use native.Mathlib.Omega.{arith}
use Rattle.sheet.specs.Limits.{most_marks}
use Rattle.sheet.specs.Sound.{ClassReady}
use Rattle.sheet.specs.declared.Sheet.{Sheet}
use Rattle.sheet.specs.Told.{Value}
use Rattle.listing.specs.Listing.{Listed}

-- the number n is 7 exactly for such a sheet
abbrev pub SevenIf : Sheet → ℕ → Type 0
SevenIf s n = (n ≡ 7 → ClassReady most_marks s → ⊥) × ((ClassReady most_marks s → ⊥) → n ≡ 7)

listed_seven : {s : Sheet} {area later : List ℕ} {v : Value} → Listed most_marks s area v later → SevenIf s v.number
listed_seven (Listed.spoiled n) = (λ e. n, λ k. refl)
listed_seven (Listed.short w l) = (λ e. absurd (omega arith), λ k. absurd (k w))
listed_seven (Listed.given w l x) = (λ e. absurd (omega arith), λ k. absurd (k w))

pub as_listed : {s : Sheet} {n : ℕ} {area later : List ℕ} {v : Value} → SevenIf s n → Listed most_marks s area v later → (n ≡ 7 → v.number ≡ 7) × (v.number ≡ 7 → n ≡ 7)
as_listed p y = let q = listed_seven y in (λ e. q.1 (p.0 e), λ e. p.1 (q.0 e))
