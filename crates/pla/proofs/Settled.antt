-- Each text has exactly one answer, and no two returns meet the writer's contract.
use Prim.Native.Nat.{ℕ}
use mathlib.Core.Path.{◌≡◌, refl, ap}
use mathlib.Core.List.{List, ◌++◌}
use native.Mathlib.Omega.{arith}
use lib.ListN.{length, drop}
use Rattle.lists.specs.Lists.{FirstShortest}
use Rattle.lists.proofs.First.{unique}
use Rattle.sheet.specs.Record.{in_class, not_out}
use Rattle.sheet.specs.Sound.{record_of}
use Rattle.sheet.specs.declared.Sheet.{Sheet}
use Rattle.sheet.specs.Told.{Value}
use Rattle.stored.specs.Answers.{read_of}
use Rattle.stored.specs.Told.{Read}
use Rattle.stored.proofs.Settled.{read_by_settled}
use Rattle.pla.specs.Writing.{pla_text}
use Rattle.pla.specs.Answers.{ReadsPla, WritesPla, spoiled, short, written}
use Rattle.pla.proofs.Runs.{says_one_outcome, says_some_outcome}

pub reads_pla_settled : {most n : ℕ} {t : List ℕ} {a b : Read} → ReadsPla most n t a → ReadsPla most n t b → a ≡ b
reads_pla_settled x y = read_by_settled (λ o u. says_one_outcome) x y

pub reads_pla_some : (most n : ℕ) (t : List ℕ) → (a : Read) × ReadsPla most n t a
reads_pla_some most n t = let o = says_some_outcome most t in (read_of n o.0, record { outcome = o.0; run = o.1; is = refl })

-- the text of a sheet's class is one
one_text : (s : Sheet) {l k : List ℕ} → FirstShortest s.marks (in_class (record_of s)) (not_out (record_of s)) l
    → FirstShortest s.marks (in_class (record_of s)) (not_out (record_of s)) k → pla_text s.marks l ≡ pla_text s.marks k
one_text s p q = ap (pla_text s.marks) (unique p q)

pub writes_pla_settled : {most : ℕ} {s : Sheet} {out later later' : List ℕ} {v w : Value} → WritesPla most s out v later → WritesPla most s out w later'
    → (v ≡ w) × (later ≡ later')
writes_pla_settled (spoiled h) (spoiled k) = (refl, refl)
writes_pla_settled (spoiled h) (short f p l) = absurd (h f)
writes_pla_settled (spoiled h) (written f p l) = absurd (h f)
writes_pla_settled (short f p l) (spoiled k) = absurd (k f)
writes_pla_settled (short f p l) (short g q k) = (refl, refl)
writes_pla_settled {s = s} (short f p l) (written g q k) = absurd (omega (arith, l, k, ap length (one_text s p q)))
writes_pla_settled (written f p l) (spoiled k) = absurd (k f)
writes_pla_settled {s = s} (written f p l) (short g q k) = absurd (omega (arith, l, k, ap length (one_text s p q)))
writes_pla_settled {s = s} {out = out} (written f p l) (written g q k) =
    let e = one_text s p q in
    (ap (λ (t : List ℕ). record { number = 0; value = length t }) e, ap (λ (t : List ℕ). t ++ drop (length t) out) e)
