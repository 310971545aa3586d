-- 01's sample sheet, stored, and what it is read as.
use Prim.Native.Nat.{ℕ, ◌^◌, ◌≤◌}
use mathlib.Core.Path.{◌≡◌, refl, sym, subst}
use mathlib.Core.Bool.{Bool, true, false, cond}
use mathlib.Core.List.{List, [], ◌∷◌}
use native.Mathlib.Omega.{arith}
use lib.Dec.{eqb, ltb}
use Rattle.boxes.specs.Sums.{sum}
use Rattle.ground.proofs.Cases.{clash}
use Rattle.classes.specs.Standings.{is_either}
use Rattle.classes.specs.declared.Standing.TheVariants.{In, Out}
use Rattle.sheet.specs.Limits.{most_marks, entries, marks_ok}
use Rattle.stored.specs.Told.{Read}
use Rattle.stored.specs.Fields.{good}
use Rattle.stored.specs.Answers.{read_of, Reads}
use Rattle.stored.specs.Form.{bytes, listed, form_by, form}
use Rattle.stored.specs.declared.Layout.TheVariants.{First}
use Rattle.stored.specs.Sample.{sample}
use Rattle.stored.proofs.Groups.{none_obeys}
use Rattle.stored.proofs.Trips.{form-same, told_agrees, form_same_sheet}

pub sample_stored : form sample
    ≡ 0x02 ∷ 0x03 ∷ 0x00 ∷ 0x01 ∷ 0x02 ∷ 0x03 ∷ 0x00 ∷ 0x00 ∷ 0x03 ∷ 0x00 ∷ 0x00 ∷ 0xF0 ∷ 0x00 ∷ 0x00 ∷ 0x00 ∷ 0x01 ∷ 0x96 ∷ 0x00 ∷ 0x00 ∷ 0x00 ∷ 0x03 ∷ 0x58 ∷ 0x02 ∷ 0x00 ∷ 0x00 ∷ []
unfolding form_by listed bytes sum
sample_stored = refl

-- as 01 has it, without the either combinations
pub sample_first : form_by First sample
    ≡ 0x02 ∷ 0x03 ∷ 0x00 ∷ 0x01 ∷ 0x02 ∷ 0x03 ∷ 0x03 ∷ 0x00 ∷ 0x00 ∷ 0xF0 ∷ 0x00 ∷ 0x00 ∷ 0x00 ∷ 0x01 ∷ 0x96 ∷ 0x00 ∷ 0x00 ∷ 0x00 ∷ 0x03 ∷ 0x58 ∷ 0x02 ∷ 0x00 ∷ 0x00 ∷ []
unfolding form_by listed bytes sum
sample_first = refl

-- no combination is either
none_either : (first below : Bool) → is_either (cond first Out (cond below In Out)) ≡ false
none_either true below = refl
none_either false true = refl
none_either false false = refl

sample_apart : (c : ℕ) → is_either (sample.standing c) ≡ true → sample.times c ≡ 0
sample_apart c e = clash e (none_either (eqb c 0) (ltb c 4))

pub sample_read : {a : Read} → Reads most_marks entries (form sample) a → a ≡ read_of entries (good sample)
unfolding marks_ok sum
sample_read {a} x =
    let long : 3 ^ most_marks ≤ entries = omega arith in
    form_same_sheet most_marks entries long (omega arith) sample (record { marks = refl; profile = refl; obeys = none_obeys sample refl; held_le_most = omega arith; apart = sample_apart })
    (subst (λ (t : List ℕ). Reads most_marks entries t a) (sym (form-same (told_agrees most_marks entries long sample refl))) x)
