-- A text begins with another, or it does not.
use Prim.Native.Nat.{ℕ}
use mathlib.Core.Path.{refl, ap}
use mathlib.Core.List.{List, [], ◌∷◌}
use native.Mathlib.Omega.{arith}
use lib.ListN.{length}
use Rattle.ground.specs.Texts.{Begins}
use Rattle.ground.proofs.Cases.{same_or}

pub begins_or : {P : Type 0} (front text : List ℕ) → (Begins front text → P) → ((Begins front text → ⊥) → P) → P
begins_or [] text good bad = good (text, refl)
begins_or (f ∷ front) [] good bad = bad (λ b. let z = ap length b.1 in omega arith)
begins_or (f ∷ front) (x ∷ text) good bad =
    same_or x f
    (λ e. begins_or front text (λ b. good (b.0, cc b.1)) (λ n. bad (λ b. n (b.0, cc b.1))))
    (λ n. bad (λ b. n (cc b.1)))
