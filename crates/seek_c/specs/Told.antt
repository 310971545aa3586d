-- What the search tells a C program.
use Rattle.std.specs.Prelude.{◌≡◌, List, ℕ, suc}
use Rattle.sets.specs.Sets.{has}
use Rattle.seek.specs.Answer.{Askable, Sought}

-- where the search may be asked, the number of boxes that it answers, and 1; otherwise 0, and the area as it was
pub record Told (m need room r : ℕ) (before after : List ℕ) : Type 0 where
  pub asked : Askable m need room before → (n : ℕ) × (r ≡ suc n) × Sought m (has need) (has room) n after
  pub refused : (Askable m need room before → ⊥) → (r ≡ 0) × (after ≡ before)
