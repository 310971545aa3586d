-- No two returns meet the promise of `read`, and none that of `answer`: a text has one number and one form, down the chain of what may stand behind what.
use Prim.Native.Nat.{ℕ, ◌+◌, ◌*◌}
use mathlib.Core.Path.{◌≡◌, sym, ap, ap₂, ◌∙◌, subst}
use mathlib.Core.List.{List, [], ◌∷◌}
use native.Mathlib.Omega.{arith}
use lib.ListN.{length}
use Rattle.times.specs.declared.Form.{Form}
use Rattle.times.specs.declared.Form.TheVariants.{Hours}
use Rattle.times.specs.declared.Time.{Time}
use Rattle.times.specs.declared.Time.TheVariants.{Value}
use Rattle.times.specs.declared.Reading.{Reading}
use Rattle.times.specs.Texts.{Readable}
use Rattle.times.specs.Places.{ReadsAs}
use Rattle.times.specs.Answers.{reading_of, Answered}
use Rattle.times.specs.Parts.{Ended, Two, After, ends, goes_on, ByParts}
use Rattle.times.proofs.Places.{settled}
use Rattle.times.proofs.Behinds.{behind_pair, too_short}
use Rattle.times.proofs.Fronts.{from_colon}
use Rattle.times.proofs.Words.{by_parts}

-- the texts of L have one reading each
abbrev OneReading : (List ℕ → ℕ → Form → Type 0) → Type 0
OneReading L = (t : List ℕ) (v w : ℕ) (f g : Form) → L t v f → L t w g → Value v f ≡ Value w g

one_ended : (g : Form) (n x : ℕ) → OneReading (Ended g n x)
one_ended g n x t v w f h p q = ap₂ Value (p.total ∙ sym q.total) (p.form ∙ sym q.form)

one_two : (K : ℕ → List ℕ → ℕ → Form → Type 0) → ((x : ℕ) → OneReading (K x)) → OneReading (Two K)
one_two K one [] v w f g p q = absurd (too_short K (omega arith) p)
one_two K one (a ∷ []) v w f g p q = absurd (too_short K (omega arith) p)
one_two K one (a ∷ b ∷ t) v w f g p q = one _ t v w f g (behind_pair K p) (behind_pair K q)

one-after : (n x : ℕ) → OneReading (After n x)
one-after n x t v w f g (ends p) (ends q) = one_ended _ n x t v w f g p q
one-after n x t v w f g (ends p) (goes_on h k rest e q) = absurd (omega (arith, ap length (sym p.nothing ∙ e)))
one-after n x t v w f g (goes_on h k rest e q) (ends p) = absurd (omega (arith, ap length (sym p.nothing ∙ e)))
one-after n x t v w f g (goes_on h k rest e p) (goes_on i j other d q) =
    let y : other ≡ rest = cc in
    one_two (Ended Hours (n * 60 + x)) (one_ended Hours (n * 60 + x)) rest v w f g p (subst (λ (u : List ℕ). Two (Ended Hours (n * 60 + x)) u w g) y q)

one_by_parts : OneReading ByParts
one_by_parts t v w f g p q =
    one_two (After p.n) (one-after p.n) p.rest v w f g p.behind
    (from_colon p.first p.n p.numeral p.small p.rest w g (subst (λ (x : List ℕ). ByParts x w g) p.text q))

pub one_value : OneReading Readable
one_value t v w f g p q = one_by_parts t v w f g (by_parts t v f p) (by_parts t w g q)

pub read_settled : {t : List ℕ} {r q : Time} → ReadsAs Readable t r → ReadsAs Readable t q → r ≡ q
read_settled {t} x y = settled Readable (one_value t) x y

pub answer_settled : {t : List ℕ} {r q : Reading} → Answered t r → Answered t q → r ≡ q
answer_settled x y = x.is ∙ ap reading_of (read_settled x.reads y.reads) ∙ sym y.is
