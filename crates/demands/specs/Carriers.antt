-- ONE CARRIER PER CAN (02, Q-7). Profiles, their faults and which combinations break one are defined in profiles/specs, opening in sheet/specs,
-- class changes in changes/specs, the end of the stored form in stored/specs; here stands what was asked of them, a field for each sentence that is no
-- field of a demand already.
use Rattle.std.specs.Prelude.{ℕ, ◌^◌, ◌<◌, ◌≤◌, ◌≡◌, true, false, List, length, get_or}
use Rattle.boxes.specs.Boxes.{contains}
use Rattle.profiles.specs.Profiles.{profile_ok, breaks, profile_of, names_ok}
use Rattle.profiles.specs.declared.Profile.{Profile}
use Rattle.profiles.specs.declared.Profile.TheVariants.{None}
use Rattle.classes.specs.Standings.{tells}
use Rattle.classes.specs.declared.Standing.{Standing}
use Rattle.classes.specs.declared.Standing.TheVariants.{Out, Either}
use Rattle.sheet.specs.Limits.{most_marks, entries, marks_ok}
use Rattle.sheet.specs.Record.{Record, in_class, not_out, outside_counts, either_counts, sheet_with, sheet_of, Obeys, opened_under}
use Rattle.sheet.specs.Sound.{own_in, ClassReady, Ready}
use Rattle.sheet.specs.Answers.{open_under_of}
use Rattle.sheet.specs.declared.Sheet.{Sheet}
use Rattle.changes.specs.Calls.{did_of}
use Rattle.changes.specs.declared.Call.{Call}
use Rattle.changes.specs.declared.Call.TheVariants.{Change, Receive, Withdraw}
use Rattle.stored.specs.Fields.{Bytes, good, ReadingBy}
use Rattle.stored.specs.declared.Layout.TheVariants.{First}
use Rattle.pla.specs.Reading.{PlaSays}
use Rattle.histories.specs.Histories.{after, after_all, sheet_after}
use Rattle.vault.specs.Sequences.{Entry, after_entry}
use Rattle.demands.specs.Demand2.{Lines}
use Rattle.demands.specs.Demand3.{Begins, BeginsIn}

-- the sheet without its profile
abbrev pub unprofiled : Sheet → Sheet
unprofiled s = sheet_with s.marks None s.outside s.either s.held

pub record Carriers : Type 0 where
  -- opening under a profile: each combination that breaks it is either, and the others start out;
  pub opens : (m : ℕ) (groups : List ℕ) → marks_ok most_marks m ≡ true → names_ok m groups ≡ true
      → open_under_of most_marks entries m groups ≡ record { number = 0; sheet = sheet_of entries (opened_under m (profile_of groups)) }
  pub either_first : (m : ℕ) (p : Profile) (c : ℕ) → c < 2 ^ m → breaks m p c ≡ true → (opened_under m p).standing c ≡ Either
  pub out_first : (m : ℕ) (p : Profile) (c : ℕ) → breaks m p c ≡ false → (opened_under m p).standing c ≡ Out
  -- 1, then 13 for a faulty one
  pub one_first : (m : ℕ) (groups : List ℕ) → marks_ok most_marks m ≡ false → (open_under_of most_marks entries m groups).number ≡ 1
  pub thirteen : (m : ℕ) (groups : List ℕ) → marks_ok most_marks m ≡ true → names_ok m groups ≡ false → (open_under_of most_marks entries m groups).number ≡ 13
  -- a sheet whose profile is faulty, or in which a combination that breaks it is not either, has an unsound class table;
  pub unsound_faulty : (s : Sheet) → profile_ok s.marks s.profile ≡ false → ClassReady most_marks s → ⊥
  pub unsound_standing : (s : Sheet) (c : ℕ) → c < 2 ^ s.marks → breaks s.marks s.profile c ≡ true
      → tells Either (own_in outside_counts s c) (own_in either_counts s c) ≡ false → ClassReady most_marks s → ⊥
  -- one that was opened so is sound, and stays so
  pub sound : {s : Sheet} {r : Record} → Begins s r → (ks : List Call) → Ready most_marks (after_all sheet_after s ks)
  -- class changes, all three and on whatever sheet: 12 directly after 2 for a combination that breaks a profile that is not faulty, by the profile alone
  pub two_first : (s : Sheet) (to : Standing) (c : ℕ) → marks_ok most_marks s.marks ≡ true → 2 ^ s.marks ≤ c → (did_of most_marks s (Change to c)).number ≡ 2
  pub twelve : (s : Sheet) (to : Standing) (c : ℕ) → marks_ok most_marks s.marks ≡ true → c < 2 ^ s.marks → breaks s.marks s.profile c ≡ true
      → profile_ok s.marks s.profile ≡ true → (did_of most_marks s (Change to c)).number ≡ 12
  -- a faulty one gives no 12: it is not asked; and receipts and withdrawals ask none
  pub faulty_unasked : (s : Sheet) (to : Standing) (c : ℕ) → profile_ok s.marks s.profile ≡ false
      → (did_of most_marks s (Change to c)).number ≡ (did_of most_marks (unprofiled s) (Change to c)).number
  pub receipt_unasked : (s : Sheet) (c d : ℕ) → (did_of most_marks s (Receive c d)).number ≡ (did_of most_marks (unprofiled s) (Receive c d)).number
  pub withdrawal_unasked : (s : Sheet) (c d : ℕ) → (did_of most_marks s (Withdraw c d)).number ≡ (did_of most_marks (unprofiled s) (Withdraw c d)).number
  -- after every history, also through C, the profile is the one that it began with, and a combination that breaks it is either
  pub stays : {s : Sheet} {r : Record} → Begins s r → (ks : List Call) → (after_all after r ks).profile ≡ r.profile
  pub always : {s : Sheet} {r : Record} → Begins s r → (ks : List Call) (c : ℕ) → c < 2 ^ r.marks → breaks r.marks r.profile c ≡ true
      → (after_all after r ks).standing c ≡ Either
  pub always_in : {t : List ℕ} {r : Record} → BeginsIn t r → (es : List Entry) (c : ℕ) → c < 2 ^ r.marks → breaks r.marks r.profile c ≡ true
      → (after_all after_entry r es).standing c ≡ Either
  -- such combinations are room and never need, so a line may contain them, and none is there for their sake: each contains a combination of the class
  pub room : (r : Record) → Obeys r → (c : ℕ) → c < 2 ^ r.marks → breaks r.marks r.profile c ≡ true → (in_class r c ≡ false) × (not_out r c ≡ true)
  pub each_line : {r : Record} {l : List ℕ} → Lines r l → (i : ℕ) → i < length l
      → (c : ℕ) × (in_class r c ≡ true) × (contains r.marks (get_or l i 0) c ≡ true)
  -- old files and PLA texts give sheets without a profile
  pub old_none : {t : List ℕ} {r : Record} → Bytes t → ReadingBy First most_marks t (good r) → r.profile ≡ None
  pub drawn_none : {t : List ℕ} {r : Record} → PlaSays most_marks t (good r) → r.profile ≡ None
