-- The public calls, a closed list: one constructor each. A call is made with any numbers, any text, any bytes and any sheet, and returns what its own
-- contract says.
use Rattle.std.specs.Prelude.{ℕ, List, [], ◌∷◌}
use Rattle.sheet.specs.Limits.{most_marks, entries}
use Rattle.sheet.specs.Record.{Table}
use Rattle.sheet.specs.Answers.{open_of, open_under_of, ClassSize}
use Rattle.sheet.specs.declared.Sheet.{Sheet}
use Rattle.sheet.specs.Told.{Value}
use Rattle.changes.specs.Calls.{did_of}
use Rattle.changes.specs.declared.Call.{Call}
use Rattle.listing.specs.Listing.{Listed}
use Rattle.totals.specs.Totals.{Totalled}
use Rattle.stored.specs.Answers.{ReadsBy, Reads, Writes}
use Rattle.stored.specs.declared.Layout.TheVariants.{First}
use Rattle.stored.specs.Told.{Read}
use Rattle.pla.specs.Answers.{ReadsPla, WritesPla}
use Rattle.times.specs.Texts.{Readable}
use Rattle.times.specs.Places.{ReadsAs}
use Rattle.times.specs.Answers.{reading_of, Answered}
use Rattle.times.specs.declared.Time.{Time}
use Rattle.times.specs.declared.Reading.{Reading}
use Rattle.checking.specs.Answers.{Checked, verdict_of}
use Rattle.checking.specs.Finding.{Finding}
use Rattle.checking.specs.declared.Verdict.{Verdict}
use Rattle.lent.specs.Entries.{Put, ChangesBy, Changes, Tells, Judges, Lends, Compared, KeptAt, same}
use Rattle.lent.specs.declared.Reply.{Reply}

-- What a caller lends to be changed and has back: nothing, a sheet, or bytes. What is lent to be read alone cannot change.
pub data Lent : Type 0 where
  nothing : Lent
  sheet : Sheet → Lent
  bytes : List ℕ → Lent

-- What a call answers: the number, the place, which is 0 where the call has none, and what else it tells.
pub record Told : Type 0 where
  pub answer : ℕ
  pub place : ℕ
  pub values : List ℕ

abbrev pub of_number : ℕ → Told
of_number n = record { answer = n; place = 0; values = [] }

abbrev pub of_value : Value → Told
of_value v = record { answer = v.number; place = 0; values = v.value ∷ [] }

abbrev pub of_read : Read → Told
of_read a = record { answer = a.number; place = a.place; values = [] }

abbrev pub of_reading : Reading → Told
of_reading r = record { answer = r.answer; place = r.place; values = r.value ∷ r.form ∷ [] }

abbrev pub of_verdict : Verdict → Told
of_verdict r = record { answer = r.answer; place = r.place; values = r.fault ∷ r.at ∷ [] }

abbrev pub of_reply : Reply → Told
of_reply r = record { answer = r.answer; place = r.place; values = r.value ∷ [] }

-- A public call was made: what it answered, and what was lent, before and after.
-- (`lists::before`, which hands back one of two lent lists, answers no number; its entry for C answers 0.)
pub data Made : Told → (before after : Lent) → Type 0 where
  -- from Rattle
  opens : (m : ℕ) → Made (of_number (open_of most_marks entries m).number) nothing nothing
  opens_under : (m : ℕ) (groups : List ℕ) → Made (of_number (open_under_of most_marks entries m groups).number) nothing nothing
  did : (s : Sheet) (k : Call) → Made (of_number (did_of most_marks s k).number) (sheet s) (sheet (did_of most_marks s k).sheet)
  class_size : {s : Sheet} {v : Value} → ClassSize most_marks s v → Made (of_value v) nothing nothing
  list : {s : Sheet} {area later : List ℕ} {v : Value} → Listed most_marks s area v later → Made (of_value v) (bytes area) (bytes later)
  check : {s : Sheet} {l : List ℕ} {x : Finding} → Checked most_marks s l x → Made (of_verdict (verdict_of x)) nothing nothing
  total : {s : Sheet} {v : Value} → Totalled most_marks s v → Made (of_value v) nothing nothing
  read : {t : List ℕ} {a : Read} → Reads most_marks entries t a → Made (of_read a) nothing nothing
  read_first : {t : List ℕ} {a : Read} → ReadsBy First most_marks entries t a → Made (of_read a) nothing nothing
  write : {s : Sheet} {out later : List ℕ} {v : Value} → Writes most_marks s out v later → Made (of_value v) (bytes out) (bytes later)
  read_pla : {t : List ℕ} {a : Read} → ReadsPla most_marks entries t a → Made (of_read a) nothing nothing
  write_pla : {s : Sheet} {out later : List ℕ} {v : Value} → WritesPla most_marks s out v later → Made (of_value v) (bytes out) (bytes later)
  read_time : {t : List ℕ} {x : Time} → ReadsAs Readable t x → Made (of_reading (reading_of x)) nothing nothing
  answer_time : {t : List ℕ} {r : Reading} → Answered t r → Made (of_reading r) nothing nothing
  -- from C; a change is that of vault_enter, vault_leave, vault_make_either, vault_receive or vault_withdraw, a kept number that of vault_outside,
  -- vault_either or vault_held
  vault_open : (m : ℕ) {out later : List ℕ} {r : Reply} → Put (open_of most_marks entries m) out r later → Made (of_reply r) (bytes out) (bytes later)
  vault_open_profile : (m : ℕ) (groups : List ℕ) {out later : List ℕ} {r : Reply} → Put (open_under_of most_marks entries m groups) out r later
      → Made (of_reply r) (bytes out) (bytes later)
  vault_change : (k : Call) {t out later : List ℕ} {r : Reply} → Changes (λ s. did_of most_marks s k) t out r later → Made (of_reply r) (bytes out) (bytes later)
  vault_copy : {t out later : List ℕ} {r : Reply} → Changes same t out r later → Made (of_reply r) (bytes out) (bytes later)
  vault_from_form1 : {t out later : List ℕ} {r : Reply} → ChangesBy (ReadsBy First most_marks entries t) same out r later → Made (of_reply r) (bytes out) (bytes later)
  vault_read_pla : {t out later : List ℕ} {r : Reply} → ChangesBy (ReadsPla most_marks entries t) same out r later → Made (of_reply r) (bytes out) (bytes later)
  vault_write_pla : {t out later : List ℕ} {r : Reply} → Lends (WritesPla most_marks) t out r later → Made (of_reply r) (bytes out) (bytes later)
  vault_list : {t area later : List ℕ} {r : Reply} → Lends (Listed most_marks) t area r later → Made (of_reply r) (bytes area) (bytes later)
  vault_check_list : {t l : List ℕ} {r : Verdict} → Judges t l r → Made (of_verdict r) nothing nothing
  vault_class_size : {t : List ℕ} {r : Reply} → Tells (ClassSize most_marks) t r → Made (of_reply r) nothing nothing
  vault_total : {t : List ℕ} {r : Reply} → Tells (Totalled most_marks) t r → Made (of_reply r) nothing nothing
  vault_kept : (k : Table) (b : ℕ) {t : List ℕ} {r : Reply} → Tells (KeptAt k b) t r → Made (of_reply r) nothing nothing
  vault_before : {first second : List ℕ} {r : Reply} → Compared first second r → Made (of_reply r) nothing nothing
  vault_read_time : {t : List ℕ} {r : Reading} → Answered t r → Made (of_reading r) nothing nothing
