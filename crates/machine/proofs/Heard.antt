-- A number that is not 0 is heard as its refusal.
use Prim.Native.Nat.{ℕ}
use mathlib.Core.Path.{◌≡◌}
use mathlib.Core.Bool.{Bool, true, ◌||◌}
use mathlib.Core.List.{List}
use lib.Dec.{eqb}
use Rattle.ground.proofs.Cases.{if}
use Rattle.machine.specs.Machine.{spoken}
use Rattle.machine.specs.Heard.{Hears, nothing, refused}

pub spoken_heard : {Page : List ℕ → Type 0} (k a : ℕ) (numbers : ℕ → Bool) → (eqb a 0 || numbers a) ≡ true → Hears Page k numbers (spoken k a)
spoken_heard k a numbers h = if (eqb a 0) (λ e. rw e nothing) (λ e. rw e (refused a (rw e at h)))
