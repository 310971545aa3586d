-- No two answers to a call: the whole return is settled, and the later content of the lent bytes.
use Prim.Native.Nat.{ℕ}
use mathlib.Core.Path.{◌≡◌, refl, sym, ap, ◌∙◌}
use mathlib.Core.List.{List}
use native.Mathlib.Omega.{arith}
use Rattle.sheet.specs.declared.Sheet.{Sheet}
use Rattle.sheet.specs.Told.{Value}
use Rattle.stored.specs.Told.{Read}
use Rattle.stored.specs.Fields.{Next, Outcome, Run}
use Rattle.stored.specs.Answers.{read_of, ReadBy, Writes, spoiled, short, written}
use Rattle.stored.proofs.Runs.{one}

-- whichever way of reading: where it says one thing at most, one answer at most
pub read_by_settled : {R : Outcome → Type 0} {n : ℕ} {a b : Read} → ((o u : Outcome) → R o → R u → o ≡ u) → ReadBy R n a → ReadBy R n b → a ≡ b
read_by_settled {n = n} alone x y = x.is ∙ ap (read_of n) (alone x.outcome y.outcome x.run y.run) ∙ sym y.is

-- by the stored form of any layout
pub reads_settled : {most n at : ℕ} {s : Next} {t : List ℕ} {a b : Read} → ReadBy (Run most s at t) n a → ReadBy (Run most s at t) n b → a ≡ b
reads_settled x y = read_by_settled (λ o u. one) x y

pub writes_settled : {most : ℕ} {s : Sheet} {out later later' : List ℕ} {v w : Value} → Writes most s out v later → Writes most s out w later' → (v ≡ w) × (later ≡ later')
writes_settled (spoiled h) (spoiled k) = (refl, refl)
writes_settled (spoiled h) (short f l) = absurd (h f)
writes_settled (spoiled h) (written f l) = absurd (h f)
writes_settled (short f l) (spoiled k) = absurd (k f)
writes_settled (short f l) (short g k) = (refl, refl)
writes_settled (short f l) (written g k) = absurd (omega arith)
writes_settled (written f l) (spoiled k) = absurd (k f)
writes_settled (written f l) (short g k) = absurd (omega arith)
writes_settled (written f l) (written g k) = (refl, refl)
