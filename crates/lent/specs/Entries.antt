-- The entries for C. A sheet travels in its stored form: first the reading's answer, then the call's, then 5. The place is 0 but for 10, and the
-- value 0 when refused; a refused entry leaves every lent byte.
use Rattle.std.specs.Prelude.{ℕ, ◌≡◌, List, Result, Ok, Err}
use Rattle.refusals.specs.Numbers.{number_of, place_of}
use Rattle.refusals.specs.declared.Refusal.{Refusal}
use Rattle.lists.specs.Lists.{Before}
use Rattle.tables.specs.Tables.{entry}
use Rattle.sheet.specs.Limits.{most_marks, entries}
use Rattle.sheet.specs.Record.{Table, kept}
use Rattle.sheet.specs.declared.Sheet.{Sheet}
use Rattle.sheet.specs.Told.{Answer, Value}
use Rattle.stored.specs.Answers.{Reads, Writes}
use Rattle.stored.specs.Told.{Read}
use Rattle.checking.specs.Answers.{Checked, verdict_of}
use Rattle.checking.specs.declared.Verdict.{Verdict}
use Rattle.lent.specs.declared.Reply.{Reply}

-- a reply with a number and a value
abbrev pub replied : ℕ → ℕ → Reply
replied number value = record { answer = number; place = 0; value = value }

abbrev pub valued : Value → Reply
valued v = replied v.number v.value

-- the reply with a result: its value, or its refusal
abbrev pub reply_of : Result ℕ Refusal → Reply
reply_of (Ok v) = replied 0 v
reply_of (Err e) = record { answer = number_of e; place = place_of e; value = 0 }

-- the replies to what could not be read: the number and the place of reading it

abbrev pub no_reply : Read → Reply
no_reply a = record { answer = a.number; place = a.place; value = 0 }

abbrev pub no_verdict : Read → Verdict
no_verdict a = record { answer = a.number; place = a.place; fault = 0; at = 0 }

-- What was lent, read by some way of reading R, gives this sheet; or it is refused, and the refusal is replied.
pub record HoldsBy (R : Read → Type 0) (s : Sheet) : Type 0 where
  pub read : Read
  pub reads : R read
  pub good : read.number ≡ 0
  pub sheet : read.sheet ≡ s

pub record HoldsNoneBy {A : Type 0} (R : Read → Type 0) (refusal : Read → A) (r : A) : Type 0 where
  pub read : Read
  pub reads : R read
  pub bad : read.number ≡ 0 → ⊥
  pub reply : r ≡ refusal read

-- the bytes t hold this sheet in its stored form, or none

abbrev pub Holds : List ℕ → Sheet → Type 0
Holds t s = HoldsBy (Reads most_marks entries t) s

abbrev pub HoldsNone : {A : Type 0} → (Read → A) → List ℕ → A → Type 0
HoldsNone refusal t r = HoldsNoneBy (Reads most_marks entries t) refusal r

-- a sheet that a call left, or its refusal, written to the lent bytes `out`
pub data Put (a : Answer) (out : List ℕ) : Reply → List ℕ → Type 0 where
  refused : (a.number ≡ 0 → ⊥) → Put a out (replied a.number 0) out
  written : {v : Value} {later : List ℕ} → a.number ≡ 0 → Writes most_marks a.sheet out v later → Put a out (valued v) later

-- an entry that makes a call on the sheet that R reads, and writes what is left to the bytes `out`
pub data ChangesBy (R : Read → Type 0) (call : Sheet → Answer) (out : List ℕ) : Reply → List ℕ → Type 0 where
  unread : {r : Reply} → HoldsNoneBy R no_reply r → ChangesBy R call out r out
  called : {s : Sheet} {r : Reply} {later : List ℕ} → HoldsBy R s → Put (call s) out r later → ChangesBy R call out r later

-- on the sheet in the bytes t
abbrev pub Changes : (Sheet → Answer) → List ℕ → List ℕ → Reply → List ℕ → Type 0
Changes call t out r later = ChangesBy (Reads most_marks entries t) call out r later

-- an entry that tells what a call answers of the sheet in the bytes t
pub data TellsAs {A B : Type 0} (refusal : Read → B) (reply : A → B) (call : Sheet → A → Type 0) (t : List ℕ) : B → Type 0 where
  unread : {r : B} → HoldsNone refusal t r → TellsAs refusal reply call t r
  told : {s : Sheet} {a : A} → Holds t s → call s a → TellsAs refusal reply call t (reply a)

-- a value
abbrev pub Tells : (Sheet → Value → Type 0) → List ℕ → Reply → Type 0
Tells call t r = TellsAs no_reply valued call t r

-- what is found of a list
abbrev pub Judges : List ℕ → List ℕ → Verdict → Type 0
Judges t l r = TellsAs no_verdict verdict_of (λ s. Checked most_marks s l) t r

-- an entry that puts something of the sheet in the bytes t into a lent area
pub data Lends (call : Sheet → List ℕ → Value → List ℕ → Type 0) (t area : List ℕ) : Reply → List ℕ → Type 0 where
  unread : {r : Reply} → HoldsNone no_reply t r → Lends call t area r area
  lent : {s : Sheet} {v : Value} {later : List ℕ} → Holds t s → call s area v later → Lends call t area (valued v) later

-- a sheet as it is, to be written again
abbrev pub same : Sheet → Answer
same s = record { number = 0; sheet = s }

-- the number that a table keeps of one line; one that is no box of the sheet has 0
abbrev pub KeptAt : Table → ℕ → Sheet → Value → Type 0
KeptAt t b s v = v ≡ record { number = 0; value = entry (kept t s) b }

-- 1 exactly if the second lent list is before the first
pub data Compared (first second : List ℕ) : Reply → Type 0 where
  keeps : (Before second first → ⊥) → Compared first second (replied 0 0)
  changes : Before second first → Compared first second (replied 0 1)
