-- What a `?` passes on is refused as the call before it was.
use Rattle.std.proofs.Common.{◌≡◌, sym, subst}
use Rattle.std.specs.Prelude.{Result, Ok, Err, IsErrAnd, MatchResult}

pub passed_on : {T E : Type 0} (P : T → Type 0) (Q : E → Type 0) (r : Result T E) (x : E) → IsErrAnd r (λ e. e ≡ x) → Q x → MatchResult r P Q
passed_on P Q (Ok v) x p q = absurd p
passed_on P Q (Err e) x p q = subst Q (sym p) q
