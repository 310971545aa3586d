-- DEMAND 3. After every sequence of calls each kept number equals the one worked out afresh from the accepted calls, and so do list and total.
-- What is worked out afresh is that of a record of marks, profile, standings and times (histories): no kept number is in it.
use Rattle.std.specs.Prelude.{ℕ, ◌^◌, ◌≤◌, ◌<◌, ◌≡◌, List, length, take}
use Rattle.boxes.specs.Boxes.{contains, sum_in}
use Rattle.boxes.specs.Sums.{sum, only}
use Rattle.lists.specs.Lists.{most_lines}
use Rattle.tables.specs.Tables.{entry}
use Rattle.profiles.specs.Profiles.{profile_of}
use Rattle.sheet.specs.Limits.{most_marks, entries}
use Rattle.sheet.specs.Record.{Record, in_class, Table, kept, quantity, opened_under, opened}
use Rattle.sheet.specs.Sound.{size_of}
use Rattle.sheet.specs.Answers.{open_of, open_under_of, ClassSize}
use Rattle.sheet.specs.declared.Sheet.{Sheet}
use Rattle.sheet.specs.Told.{Value}
use Rattle.changes.specs.Calls.{did_of, move_of}
use Rattle.changes.specs.Promises.{Altered}
use Rattle.changes.specs.declared.Call.{Call}
use Rattle.listing.specs.Listing.{Listed}
use Rattle.totals.specs.Totals.{total_of, Totalled}
use Rattle.stored.specs.Fields.{Bytes, good, ReadingBy, Reading}
use Rattle.stored.specs.Answers.{ReadsBy}
use Rattle.stored.specs.declared.Layout.{Layout}
use Rattle.stored.specs.declared.Layout.TheVariants.{First}
use Rattle.stored.specs.Told.{Read}
use Rattle.pla.specs.Reading.{PlaSays}
use Rattle.pla.specs.Answers.{ReadsPla}
use Rattle.histories.specs.Histories.{number_of, after, after_all, numbers_of, sheet_after, number_given, Given}
use Rattle.histories.specs.Travels.{Event, Lives, event_number, after_event}
use Rattle.lent.specs.Entries.{replied, Put, ChangesBy, Tells, Lends, KeptAt, same}
use Rattle.vault.specs.Sequences.{Entry, Serves, entry_number, after_entry}
use Rattle.lent.specs.declared.Reply.{Reply}

-- how a history begins, and with which record: with an opened sheet, under a profile or without one, with what was read, of today's form or 01's, or
-- with what a PLA text draws (a refused one gives the sheet of `opening 1`: `demand_1`)
pub data Begins : Sheet → Record → Type 0 where
  opening : (m : ℕ) → (open_of most_marks entries m).number ≡ 0 → Begins (open_of most_marks entries m).sheet (opened m)
  opening_under : (m : ℕ) (groups : List ℕ) → (open_under_of most_marks entries m groups).number ≡ 0
      → Begins (open_under_of most_marks entries m groups).sheet (opened_under m (profile_of groups))
  reading : (layout : Layout) {t : List ℕ} {a : Read} {r : Record} → Bytes t → ReadsBy layout most_marks entries t a → ReadingBy layout most_marks t (good r)
      → Begins a.sheet r
  drawing : {t : List ℕ} {a : Read} {r : Record} → ReadsPla most_marks entries t a → PlaSays most_marks t (good r) → Begins a.sheet r

-- the sheet is the one worked out afresh from the record r: of each box it keeps the sum over the box's combinations, in the entries of no box 0; and
-- list, total and class size are the record's
pub record WorkedOut (r : Record) (s : Sheet) : Type 0 where
  pub marks : s.marks ≡ r.marks
  pub profile : s.profile ≡ r.profile
  pub each_kept : (t : Table) (b : ℕ) → b < 3 ^ r.marks → entry (kept t s) b ≡ sum_in r.marks b (quantity t r)
  pub above : (t : Table) (b : ℕ) → 3 ^ r.marks ≤ b → entry (kept t s) b ≡ 0
  pub list : {area later : List ℕ} {v : Value} → most_lines r.marks ≤ length area → Listed most_marks s area v later → Given r area v later
  pub total : {v : Value} → Totalled most_marks s v → v ≡ record { number = 0; value = total_of r }
  pub class_size : {v : Value} → ClassSize most_marks s v → v ≡ record { number = 0; value = size_of r.marks (in_class r) }

-- the same through the entries for C, of a sheet in bytes

pub data BeginsIn : List ℕ → Record → Type 0 where
  opening : (m : ℕ) {out later : List ℕ} {reply : Reply} → Put (open_of most_marks entries m) out reply later → reply.answer ≡ 0
      → BeginsIn (take reply.value later) (opened m)
  opening_under : (m : ℕ) (groups : List ℕ) {out later : List ℕ} {reply : Reply} → Put (open_under_of most_marks entries m groups) out reply later → reply.answer ≡ 0
      → BeginsIn (take reply.value later) (opened_under m (profile_of groups))
  reading : {t : List ℕ} {r : Record} → Bytes t → Reading most_marks t (good r) → BeginsIn t r
  converting : {t out later : List ℕ} {reply : Reply} {r : Record} → Bytes t → ChangesBy (ReadsBy First most_marks entries t) same out reply later
      → reply.answer ≡ 0 → ReadingBy First most_marks t (good r) → BeginsIn (take reply.value later) r
  drawing : {t out later : List ℕ} {reply : Reply} {r : Record} → ChangesBy (ReadsPla most_marks entries t) same out reply later → reply.answer ≡ 0
      → PlaSays most_marks t (good r) → BeginsIn (take reply.value later) r

pub record WorkedOutIn (r : Record) (t : List ℕ) : Type 0 where
  -- of a number that is no box's the sum is 0
  pub each_kept : (k : Table) (b : ℕ) {reply : Reply} → Tells (KeptAt k b) t reply → reply ≡ replied 0 (sum_in r.marks b (quantity k r))
  pub list : {area later : List ℕ} {reply : Reply} → most_lines r.marks ≤ length area → Lends (Listed most_marks) t area reply later
      → (reply.place ≡ 0) × Given r area (record { number = reply.answer; value = reply.value }) later
  pub total : {reply : Reply} → Tells (Totalled most_marks) t reply → reply ≡ replied 0 (total_of r)
  pub class_size : {reply : Reply} → Tells (ClassSize most_marks) t reply → reply ≡ replied 0 (size_of r.marks (in_class r))

pub record Demand3 : Type 0 where
  -- every sequence of calls, refused ones among them: the numbers answered, and the sheet at the end
  pub calls : {s : Sheet} {r : Record} → Begins s r → (ks : List Call)
      → (numbers_of number_given sheet_after s ks ≡ numbers_of number_of after r ks) × WorkedOut (after_all after r ks) (after_all sheet_after s ks)
  -- with journeys in stored form among the calls
  pub journeys : {s z : Sheet} {r : Record} {es : List Event} {ns : List ℕ} → Begins s r → Lives s es ns z
      → (ns ≡ numbers_of event_number after_event r es) × WorkedOut (after_all after_event r es) z
  -- through the entries for C, `vault_copy` among them
  pub entries : {t z : List ℕ} {r : Record} {es : List Entry} {ns : List ℕ} → BeginsIn t r → Serves t es ns z
      → (ns ≡ numbers_of entry_number after_entry r es) × WorkedOutIn (after_all after_entry r es) z
  -- one accepted change, of whatever sheet, alters the numbers of exactly the boxes that contain its combination, each of them, and no other
  pub alters : (s : Sheet) (k : Call) → (did_of most_marks s k).number ≡ 0 → Altered (move_of s k) s (did_of most_marks s k).sheet
  -- and these are 2^m
  pub touched : (s : Sheet) (k : Call) → (did_of most_marks s k).number ≡ 0
      → sum (3 ^ s.marks) (λ b. only (contains s.marks b (move_of s k).at) 1) ≡ 2 ^ s.marks
