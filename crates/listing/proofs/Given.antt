-- A list for two sets is that for what they are known to be.
use Prim.Native.Nat.{ℕ}
use mathlib.Core.Path.{◌≡◌, subst}
use mathlib.Core.Bool.{Bool}
use mathlib.Core.List.{List}
use Rattle.listing.specs.Listing.{Laid}

pub laid_told : {m n : ℕ} {p q need room : ℕ → Bool} {area later : List ℕ} → p ≡ need → q ≡ room → Laid m p q area n later → Laid m need room area n later
laid_told {m} {n} {q = q} {need} {area = area} {later} e f s =
    subst (λ (x : ℕ → Bool). Laid m need x area n later) f (subst (λ (x : ℕ → Bool). Laid m x q area n later) e s)
