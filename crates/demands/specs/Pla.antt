-- PLA FILES (02, Q-1). What a text says, line by line, is defined in pla/specs; here stands what was asked of reader and writer, a field for each sentence.
use Rattle.std.specs.Prelude.{ℕ, ◌-◌, ◌/◌, ◌%◌, ◌^◌, ◌<◌, ◌≡◌, List, [], ◌++◌, ◌⊎◌, true, ◌&&◌, ◌||◌, eqb, length, get_or, take, drop}
use Rattle.ground.specs.Decides.{Decides}
use Rattle.print.specs.Texts.{sign}
use Rattle.tables.specs.Tables.{entry}
use Rattle.lists.specs.Lists.{covered}
use Rattle.classes.specs.Standings.{is_either}
use Rattle.sheet.specs.Limits.{most_marks, entries, marks_ok}
use Rattle.sheet.specs.Record.{Record, in_class, NoneEither, sheet_of}
use Rattle.sheet.specs.Sound.{record_of}
use Rattle.sheet.specs.declared.Sheet.{Sheet}
use Rattle.sheet.specs.Told.{Value}
use Rattle.listing.specs.Listing.{Listed}
use Rattle.stored.specs.Fields.{good}
use Rattle.stored.specs.Form.{form}
use Rattle.stored.specs.Told.{Read}
use Rattle.pla.specs.Texts.{lines_of}
use Rattle.pla.specs.Sayings.{cube, Says}
use Rattle.pla.specs.Reading.{PlaSays, Drawn}
use Rattle.pla.specs.Writing.{pla_text}
use Rattle.pla.specs.Answers.{ReadsPla, WritesPla}
use Rattle.lent.specs.Entries.{Holds, ChangesBy, Lends, same}
use Rattle.lent.specs.declared.Reply.{Reply}
use Rattle.demands.specs.Demand2.{Lines}

-- the sheet that the text t draws
pub record DrawnFrom (t : List ℕ) (s : Sheet) : Type 0 where
  pub marks : marks_ok most_marks s.marks ≡ true
  -- a combination is in the class exactly if some cube line contains it, and no other is either
  pub class : (c : ℕ) → Decides (in_class (record_of s) c) (Drawn s.marks c (lines_of t))
  pub others : NoneEither (record_of s)
  pub nothing_held : (b : ℕ) → entry s.held b ≡ 0
  -- its numbers are those worked out from what the text says
  pub sheet : {r : Record} → PlaSays most_marks t (good r) → s ≡ sheet_of entries r

-- what was read back of these lines of the sheet s: its marks, its class together with the either combinations of the lines, and nothing held
pub record GivesBack (s : Sheet) (lines : List ℕ) (a : Read) : Type 0 where
  pub done : a.number ≡ 0
  pub marks : a.sheet.marks ≡ s.marks
  pub class : (c : ℕ) → in_class (record_of a.sheet) c ≡ (in_class (record_of s) c || (is_either ((record_of s).standing c) && covered s.marks lines c))
  pub others : NoneEither (record_of a.sheet)
  pub nothing_held : (b : ℕ) → entry a.sheet.held b ≡ 0

-- what the writer gave of the sheet s, in the bytes lent for it: the text of demand 2's lines
pub record WrittenAs (s : Sheet) (out : List ℕ) (v : Value) (later : List ℕ) : Type 0 where
  pub lines : List ℕ
  pub of_class : Lines (record_of s) lines
  pub size : v.value ≡ length (pla_text s.marks lines)
  pub stands : later ≡ pla_text s.marks lines ++ drop (length (pla_text s.marks lines)) out
  pub back : {a : Read} → ReadsPla most_marks entries (take v.value later) a → GivesBack s lines a

-- the same through C: of a text that was read the bytes written are the drawn sheet's form; of a sheet in bytes the text is written
pub record DrawnIn (t out : List ℕ) (r : Reply) (later : List ℕ) : Type 0 where
  pub sheet : Sheet
  pub drawn : DrawnFrom t sheet
  pub size : r.value ≡ length (form (record_of sheet))
  pub stands : later ≡ form (record_of sheet) ++ drop (length (form (record_of sheet))) out

pub record WrittenIn (t out : List ℕ) (r : Reply) (later : List ℕ) : Type 0 where
  pub sheet : Sheet
  pub held_in : Holds t sheet
  pub written : WrittenAs sheet out (record { number = r.answer; value = r.value }) later

pub record Pla : Type 0 where
  -- each text has exactly one answer: a sheet, or 1, or 10 with a place
  pub some : (t : List ℕ) → (a : Read) × ReadsPla most_marks entries t a
  pub one : {t : List ℕ} {a b : Read} → ReadsPla most_marks entries t a → ReadsPla most_marks entries t b → a ≡ b
  pub numbers : {t : List ℕ} {a : Read} → ReadsPla most_marks entries t a → (a.number ≡ 0 → ⊥)
      → ((a.number ≡ 1) × (a.place ≡ 0)) ⊎ (a.number ≡ 10)
  -- the leftmost input is the highest mark: of a cube, the sign of mark i stands i places before the last, and tells digit i of its box
  pub leftmost : {m b : ℕ} {ws : List (List ℕ)} → Says m ws (cube b) → (i : ℕ) → i < m → get_or (get_or ws 0 []) (m - 1 - i) 0 ≡ sign (b / 3 ^ i % 3)
  -- the sheet read has the union of the cubes as class and holds nothing
  pub read : {t : List ℕ} {a : Read} → ReadsPla most_marks entries t a → a.number ≡ 0 → DrawnFrom t a.sheet
  pub entry_read : {t out later : List ℕ} {r : Reply} → ChangesBy (ReadsPla most_marks entries t) same out r later → r.answer ≡ 0 → DrawnIn t out r later
  -- a text that is refused changes no lent byte
  pub refused : {t out later : List ℕ} {r : Reply} → ChangesBy (ReadsPla most_marks entries t) same out r later → (r.answer ≡ 0 → ⊥) → later ≡ out
  -- the writer gives the shortest list in our order, and reading it back gives the class, with the either combinations of its lines (02, Q-6)
  pub written : {s : Sheet} {out later : List ℕ} {v : Value} → WritesPla most_marks s out v later → v.number ≡ 0 → WrittenAs s out v later
  pub entry_written : {t out later : List ℕ} {r : Reply} → Lends (WritesPla most_marks) t out r later → r.answer ≡ 0 → WrittenIn t out r later
  -- 7 as the list does, and then 5 exactly if the text is longer than the room
  pub seven : {s : Sheet} {out later area after : List ℕ} {v w : Value} → WritesPla most_marks s out v later → Listed most_marks s area w after
      → (v.number ≡ 7 → w.number ≡ 7) × (w.number ≡ 7 → v.number ≡ 7)
  pub five : {s : Sheet} {out later l : List ℕ} {v : Value} → WritesPla most_marks s out v later → (v.number ≡ 7 → ⊥)
      → Lines (record_of s) l → Decides (eqb v.number 5) (length out < length (pla_text s.marks l))
