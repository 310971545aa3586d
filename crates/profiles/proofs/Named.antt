-- The groups that a profile can have, by how many there are.
use Prim.Native.Nat.{ℕ}
use mathlib.Core.Path.{◌≡◌}
use mathlib.Core.Bool.{true}
use lib.Dec.{eqb}
use borrow.Author.Tests.{eqb-true}
use Rattle.ground.proofs.Cases.{if}
use Rattle.profiles.specs.Profiles.{count_ok}

-- one or two
pub count_or : {P : Type 0} (n : ℕ) → count_ok n ≡ true → (n ≡ 1 → P) → (n ≡ 2 → P) → P
unfolding count_ok
count_or n e one two = if (eqb n 1) (λ q. one (eqb-true n 1 q)) (λ q. two (eqb-true n 2 (rw q at e)))
