-- The comparison of two lent lists (01, 'How a list is sought').
use Rattle.std.specs.Prelude.{◌≡◌, List, ℕ}
use Rattle.lists.specs.Lists.{Before}

-- Of the references a to list l and b to list k the one handed back: b itself where k is before l, and otherwise, also where they are equal, a itself.
pub record HandsBack {R : Type 0} (l k : List ℕ) (a b r : R) : Type 0 where
  pub second : Before k l → r ≡ b
  pub first : (Before k l → ⊥) → r ≡ a
