-- COMBINATIONS NO CAN COULD HAVE (02, Q-6). Standings are defined in classes/specs, counts in sheet/specs, calls in changes/specs, the stored form
-- in stored/specs; here stands what was asked of them, a field for each sentence that is no field of a demand already.
use Rattle.std.specs.Prelude.{ℕ, ◌+◌, ◌^◌, ◌<◌, ◌≤◌, ◌≡◌, true, false, List, ◌∷◌, ◌++◌, length, drop}
use Rattle.lists.specs.Lists.{covered}
use Rattle.profiles.specs.Profiles.{settles}
use Rattle.profiles.specs.declared.Profile.TheVariants.{None}
use Rattle.classes.specs.Standings.{is, is_out, is_either, outs, eithers, tells, told_by}
use Rattle.classes.specs.declared.Standing.{Standing}
use Rattle.classes.specs.declared.Standing.TheVariants as standing
use Rattle.sheet.specs.Limits.{most_marks, entries, marks_ok, amount_ok}
use Rattle.sheet.specs.Record.{Record, in_class, NoneEither, outside_counts, either_counts, held_seconds}
use Rattle.sheet.specs.Sound.{own_in}
use Rattle.sheet.specs.declared.Sheet.{Sheet}
use Rattle.sheet.specs.Told.{Value}
use Rattle.changes.specs.Calls.{did_of}
use Rattle.changes.specs.declared.Call.{Call}
use Rattle.changes.specs.declared.Call.TheVariants.{Change, Receive}
use Rattle.totals.specs.Totals.{Totalled}
use Rattle.stored.specs.Fields.{Bytes, good, ReadingBy}
use Rattle.stored.specs.Form.{section, profile_bytes, form_by, form}
use Rattle.stored.specs.Answers.{ReadsBy}
use Rattle.stored.specs.declared.Layout.TheVariants.{First}
use Rattle.stored.specs.declared.Section.TheVariants.{Class, Either, Held}
use Rattle.histories.specs.Histories.{Good, number_of, accepted, after, after_all}
use Rattle.lent.specs.Entries.{ChangesBy, same}
use Rattle.lent.specs.declared.Reply.{Reply}
use Rattle.demands.specs.Demand2.{Lines}
use Rattle.demands.specs.Demand3.{Begins}

-- what vault_from_form1 wrote of the record r
pub record Converted (r : Record) (out : List ℕ) (reply : Reply) (later : List ℕ) : Type 0 where
  pub size : reply.value ≡ length (form r)
  pub stands : later ≡ form r ++ drop (length (form r)) out

pub record Standings : Type 0 where
  -- own numbers (0, 0), (1, 0) and (0, 1) tell in, out and either, and no others pass the test of the class table
  pub three : (s : Standing) → told_by (outs s) (eithers s) ≡ s
  pub no_fourth : (o e : ℕ) → o + e ≤ 1 → (s : Standing) × (o ≡ outs s) × (e ≡ eithers s)
  -- a change makes the combination stand so, from either of the other two standings, if no profile settles how it stands,
  pub changes : (r : Record) (to : Standing) (c : ℕ) → c < 2 ^ r.marks → settles r.marks r.profile c ≡ false → is to (r.standing c) ≡ false → (is_either to ≡ true → r.times c ≡ 0)
      → number_of r (Change to c) ≡ 0
  pub stands : (r : Record) (to : Standing) (c : ℕ) → (accepted r (Change to c)).standing c ≡ to
  -- and is refused by 3, and then by 12 for making one either while it holds time; a receipt to an either one by 12, after 4
  pub three_first : (r : Record) (to : Standing) (c : ℕ) → c < 2 ^ r.marks → settles r.marks r.profile c ≡ false → is to (r.standing c) ≡ true → number_of r (Change to c) ≡ 3
  pub twelve : (r : Record) (c : ℕ) → c < 2 ^ r.marks → settles r.marks r.profile c ≡ false → is_either (r.standing c) ≡ false → 0 < r.times c → number_of r (Change standing.Either c) ≡ 12
  pub receipt : (r : Record) (c d : ℕ) → c < 2 ^ r.marks → amount_ok d ≡ true → is_either (r.standing c) ≡ true → number_of r (Receive c d) ≡ 12
  -- 7 for a change, of whatever sheet, if the own numbers tell none of the three; such numbers give a receipt no 12 and no 7
  pub seven : (s : Sheet) (to : Standing) (c : ℕ) → marks_ok most_marks s.marks ≡ true → c < 2 ^ s.marks
      → settles s.marks s.profile c ≡ false → 1 < own_in outside_counts s c + own_in either_counts s c → (did_of most_marks s (Change to c)).number ≡ 7
  pub receipt_untold : (s : Sheet) (c d : ℕ) → marks_ok most_marks s.marks ≡ true → 1 < own_in outside_counts s c + own_in either_counts s c
      → let n = (did_of most_marks s (Receive c d)).number in (n ≡ 12 → ⊥) × (n ≡ 7 → ⊥)
  -- time under an either combination makes the time table unsound, so that the total is 7; no sequence of calls leads there
  pub time : (s : Sheet) (c : ℕ) {v : Value} → c < 2 ^ s.marks → tells standing.Either (own_in outside_counts s c) (own_in either_counts s c) ≡ true
      → 0 < own_in held_seconds s c → Totalled most_marks s v → v ≡ record { number = 7; value = 0 }
  pub apart : {s : Sheet} {r : Record} → Begins s r → (ks : List Call) (c : ℕ) → is_either ((after_all after r ks).standing c) ≡ true → (after_all after r ks).times c ≡ 0
  -- the lines contain each combination that is in, and none that is out
  pub covers : {r : Record} {l : List ℕ} → Lines r l → (c : ℕ) → in_class r c ≡ true → covered r.marks l c ≡ true
  pub none_out : {r : Record} {l : List ℕ} → Lines r l → (c : ℕ) → covered r.marks l c ≡ true → is_out (r.standing c) ≡ false
  -- the stored form has a section of either combinations, with its count, behind the class section (and a profile at its end: 02, Q-7)
  pub sections : (r : Record) → form r ≡ r.marks ∷ (section Class r ++ (section Either r ++ (section Held r ++ profile_bytes r.profile)))
  -- old files keep their own reading: they have no either combinations, and what is read of them is written in the new form
  pub old : {t : List ℕ} {r : Record} → Bytes t → ReadingBy First most_marks t (good r) → NoneEither r × (t ≡ form_by First r)
  pub old_reads : (r : Record) → Good r → NoneEither r → r.profile ≡ None → ((c : ℕ) → 2 ^ r.marks ≤ c → r.times c ≡ 0) → ReadingBy First most_marks (form_by First r) (good r)
  pub converts : {t out later : List ℕ} {reply : Reply} {r : Record} → Bytes t → ReadingBy First most_marks t (good r)
      → ChangesBy (ReadsBy First most_marks entries t) same out reply later → reply.answer ≡ 0 → Converted r out reply later
