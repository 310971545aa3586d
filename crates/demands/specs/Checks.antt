-- LISTS THAT OTHERS DREW (02, Q-4). The faults of a list are defined in checking/specs; here stands what was asked of the check, a field for each sentence.
use Rattle.std.specs.Prelude.{ℕ, ◌≡◌, List, ◌∷◌, ◌++◌, take}
use Rattle.lists.specs.Lists.{Fits}
use Rattle.sheet.specs.Limits.{most_marks}
use Rattle.sheet.specs.Record.{in_class, not_out}
use Rattle.sheet.specs.Sound.{ClassReady, record_of}
use Rattle.sheet.specs.declared.Sheet.{Sheet}
use Rattle.sheet.specs.Told.{Value}
use Rattle.listing.specs.Listing.{Listed}
use Rattle.checking.specs.Faults.{FirstFault}
use Rattle.checking.specs.Answers.{Checked, verdict_of}
use Rattle.checking.specs.declared.Fault.{Fault}
use Rattle.checking.specs.Finding.{Finding}
use Rattle.checking.specs.Finding.Finding.{Fitting, Faulty}
use Rattle.checking.specs.declared.Verdict.{Verdict}
use Rattle.lent.specs.Entries.{Holds, Lends, Judges}
use Rattle.lent.specs.declared.Reply.{Reply}

-- the list fits the class of the sheet: it covers what is in, and nothing that is out
abbrev pub FitsClass : Sheet → List ℕ → Type 0
FitsClass s l = Fits s.marks (in_class (record_of s)) (not_out (record_of s)) l

-- the first place of the list's first fault
abbrev pub FirstFaultIn : Sheet → List ℕ → Fault → ℕ → Type 0
FirstFaultIn s l f i = FirstFault s.marks (in_class (record_of s)) (not_out (record_of s)) l f i

-- what was found through C, of the sheet that the lent bytes hold
pub record CheckedIn (t l : List ℕ) (r : Verdict) : Type 0 where
  pub sheet : Sheet
  pub held_in : Holds t sheet
  pub finding : Finding
  pub checked : Checked most_marks sheet l finding
  pub told : r ≡ verdict_of finding

pub record Checks : Type 0 where
  -- every sheet and list has exactly one finding
  pub some : (s : Sheet) (l : List ℕ) → (x : Finding) × Checked most_marks s l x
  pub one : {s : Sheet} {l : List ℕ} {x y : Finding} → Checked most_marks s l x → Checked most_marks s l y → x ≡ y
  -- 7 as for the list
  pub seven : {s : Sheet} {l area later : List ℕ} {x : Finding} {v : Value} → Checked most_marks s l x → Listed most_marks s area v later
      → ((verdict_of x).answer ≡ 7 → v.number ≡ 7) × (v.number ≡ 7 → (verdict_of x).answer ≡ 7)
  -- a list is accepted exactly if it fits the class,
  pub accepted : {s : Sheet} {l : List ℕ} → Checked most_marks s l Fitting → FitsClass s l
  pub accepts : {s : Sheet} {l : List ℕ} {x : Finding} → Checked most_marks s l x → ClassReady most_marks s → FitsClass s l → x ≡ Fitting
  -- in any order: two neighbours may change places
  pub any_order : {s : Sheet} (k l : List ℕ) (a b : ℕ) → Checked most_marks s (k ++ a ∷ b ∷ l) Fitting → Checked most_marks s (k ++ b ∷ a ∷ l) Fitting
  -- otherwise the first place of the first fault is named
  pub otherwise : {s : Sheet} {l : List ℕ} {x : Finding} → Checked most_marks s l x → ClassReady most_marks s → (FitsClass s l → ⊥)
      → (f : Fault) × (i : ℕ) × (x ≡ Faulty f i) × FirstFaultIn s l f i
  -- what `list` gives is accepted
  pub given : {s : Sheet} {area later : List ℕ} {v : Value} {x : Finding} → Listed most_marks s area v later → v.number ≡ 0
      → Checked most_marks s (take v.value later) x → x ≡ Fitting
  -- and through C
  pub entry : {t l : List ℕ} {r : Verdict} → Judges t l r → r.answer ≡ 0 → CheckedIn t l r
  pub entry_one : {t l : List ℕ} {r z : Verdict} → Judges t l r → Judges t l z → r ≡ z
  pub entry_given : {t area later : List ℕ} {r : Reply} {w : Verdict} → Lends (Listed most_marks) t area r later → r.answer ≡ 0
      → Judges t (take r.value later) w → w ≡ verdict_of Fitting
