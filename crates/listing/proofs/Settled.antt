-- No two returns meet the contract of `list`, the lent area included.
use Prim.Native.Nat.{ℕ}
use mathlib.Core.Path.{◌≡◌, refl, sym, ap, ◌∙◌}
use mathlib.Core.Bool.{Bool}
use mathlib.Core.List.{List, ◌++◌}
use native.Mathlib.Omega.{arith}
use lib.ListN.{length, drop}
use Rattle.lists.proofs.First.{unique}
use Rattle.sheet.specs.declared.Sheet.{Sheet}
use Rattle.sheet.specs.Told.{Value}
use Rattle.listing.specs.Listing.{Laid, Listed}

laid_settled : {m : ℕ} {need room : ℕ → Bool} {area : List ℕ} {n k : ℕ} {x y : List ℕ} → Laid m need room area n x → Laid m need room area k y → (n ≡ k) × (x ≡ y)
laid_settled {area = area} p q =
    let e = unique p.right q.right in
    (p.size ∙ ap length e ∙ sym q.size, p.stands ∙ ap (λ (l : List ℕ). l ++ drop (length l) area) e ∙ sym q.stands)

pub list_settled : {most : ℕ} {s : Sheet} {area : List ℕ} {a z : Value} {x y : List ℕ} → Listed most s area a x → Listed most s area z y → (a ≡ z) × (x ≡ y)
list_settled (Listed.spoiled p) (Listed.spoiled q) = (refl, refl)
list_settled (Listed.spoiled p) (Listed.short q l) = absurd (p q)
list_settled (Listed.spoiled p) (Listed.given q l w) = absurd (p q)
list_settled (Listed.short p l) (Listed.spoiled q) = absurd (q p)
list_settled (Listed.short p l) (Listed.short q k) = (refl, refl)
list_settled (Listed.short p l) (Listed.given q k w) = absurd (omega arith)
list_settled (Listed.given p l v) (Listed.spoiled q) = absurd (q p)
list_settled (Listed.given p l v) (Listed.short q k) = absurd (omega arith)
list_settled (Listed.given p l v) (Listed.given q k w) =
    let e = laid_settled v w in
    (ap (λ (n : ℕ). record { number = 0; value = n }) e.0, e.1)
