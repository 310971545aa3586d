-- A history that begins with a record that a sheet can have stays with the sheet of the record worked out; what is read off that sheet is the record's.
use Prim.Native.Nat.{ℕ, ◌^◌, ◌≤◌}
use mathlib.Core.Path.{◌≡◌, refl, sym, ◌∙◌, ap, subst}
use mathlib.Core.Bool.{true}
use mathlib.Core.List.{List}
use native.Mathlib.Omega.{arith}
use lib.ListN.{length, get_or-eq_default}
use Rattle.ground.proofs.Cases.{if, below_or, and_right}
use Rattle.boxes.specs.Boxes.{sum_in}
use Rattle.boxes.proofs.Boxes.{sum_in_nothing}
use Rattle.boxes.proofs.Count.{boxes_through}
use Rattle.lists.specs.Lists.{most_lines}
use Rattle.tables.specs.Tables.{entry, afresh}
use Rattle.tables.proofs.Entries.{afresh-entry, tab-length}
use Rattle.profiles.specs.Profiles.{count_ok, profile_of, names_ok}
use Rattle.sheet.specs.Limits.{most_marks, entries, marks_ok}
use Rattle.sheet.specs.Record.{Record, in_class, Table, outside_counts, either_counts, held_seconds, kept, quantity, sheet_of}
use Rattle.sheet.specs.Sound.{size_of}
use Rattle.sheet.specs.Answers.{open_of, open_under_of, ClassSize}
use Rattle.sheet.specs.Told.{Answer}
use Rattle.sheet.specs.declared.Sheet.{Sheet}
use Rattle.sheet.specs.Told.{Value}
use Rattle.sheet.proofs.Answers.{open_done, open_refused, open_under_done, open_under_faulty, open_under_refused}
use Rattle.sheet.proofs.Limits.{boxes_fit}
use Rattle.changes.specs.Calls.{move_of}
use Rattle.changes.specs.declared.Call.{Call}
use Rattle.changes.proofs.Alters.{did_alters}
use Rattle.changes.proofs.Tests.{accepts}
use Rattle.listing.specs.Listing.{Listed}
use Rattle.totals.specs.Totals.{total_of, Totalled}
use Rattle.stored.specs.Answers.{read_of, ReadsBy}
use Rattle.stored.specs.Fields.{good, ReadingBy}
use Rattle.stored.specs.declared.Layout.TheVariants.{First, Today}
use Rattle.stored.specs.Form.{form}
use Rattle.stored.specs.Told.{Read}
use Rattle.stored.proofs.IsForm.{is-form}
use Rattle.stored.proofs.Runs.{one}
use Rattle.pla.specs.Reading.{PlaSays}
use Rattle.pla.specs.Answers.{ReadsPla}
use Rattle.pla.proofs.Runs.{says_one_outcome}
use Rattle.pla.proofs.Drawings.{drawn_marks, drawn_times, drawn_combination}
use Rattle.pla.proofs.Sound.{drawn_storable}
use Rattle.histories.specs.Histories.{Good, Given, number_of, after, after_all, numbers_of, sheet_after, number_given}
use Rattle.histories.specs.Travels.{Event, Lives, event_number, after_event}
use Rattle.histories.proofs.Afresh.{list_afresh, total_afresh, size_afresh}
use Rattle.histories.proofs.Goods.{good_opened, good_opened_under}
use Rattle.histories.proofs.Histories.{sheet_afresh, answers_afresh, good_all}
use Rattle.histories.proofs.Travels.{good_read, good_events, lives_afresh}
use Rattle.lent.specs.Entries.{replied, TellsAs, Tells, Lends, KeptAt}
use Rattle.vault.specs.Sequences.{Entry, Serves, entry_number, after_entry}
use Rattle.lent.specs.declared.Reply.{Reply}
use Rattle.vault.proofs.Sequences.{holds_record, holds_some, serves_afresh, good_entries, open_begins, open_under_begins, read_begins}
use Rattle.demands.specs.Demand3.{Begins, BeginsIn, WorkedOut, WorkedOutIn, Demand3}

-- a table worked out afresh keeps of every number the sum over its box, 0 where it is none
afresh-every : (n m : ℕ) (f : ℕ → ℕ) (b : ℕ) → 3 ^ m ≤ n → entry (afresh n m f) b ≡ sum_in m b f
afresh-every n m f b l =
    below_or b n
    (λ k. afresh-entry n m f b k)
    (λ k. get_or-eq_default (afresh n m f) 0 (omega (arith, tab-length n (λ x. sum_in m x f))) ∙ sym (sum_in_nothing m b f (omega arith)))

module _ (r : Record) (g : Good r) where
  pub kept_afresh : (t : Table) (b : ℕ) → entry (kept t (sheet_of entries r)) b ≡ sum_in r.marks b (quantity t r)
  kept_afresh outside_counts b = afresh-every entries r.marks (quantity outside_counts r) b (boxes_fit r.marks g.marks)
  kept_afresh either_counts b = afresh-every entries r.marks (quantity either_counts r) b (boxes_fit r.marks g.marks)
  kept_afresh held_seconds b = afresh-every entries r.marks (quantity held_seconds r) b (boxes_fit r.marks g.marks)

  -- the sheet of the record

  of_record : WorkedOut r (sheet_of entries r)
  of_record = record {
    marks = refl;
    profile = refl;
    each_kept = λ t b l. kept_afresh t b;
    above = λ t b l. kept_afresh t b ∙ sum_in_nothing r.marks b (quantity t r) l;
    list = λ l w. list_afresh r g _ _ _ l w;
    total = λ w. total_afresh r g _ w;
    class_size = λ w. size_afresh r g _ w;
  }

  worked_out : {s : Sheet} → s ≡ sheet_of entries r → WorkedOut r s
  worked_out e = subst (WorkedOut r) (sym e) of_record

  -- and its bytes

  told : (call : Sheet → Value → Type 0) (n : ℕ) → ((v : Value) → call (sheet_of entries r) v → v ≡ record { number = 0; value = n }) → {reply : Reply}
      → Tells call (form r) reply → reply ≡ replied 0 n
  told call n is (TellsAs.unread u) = absurd (holds_some r g u)
  told call n is (TellsAs.told {a = v} h w) =
      ap (λ (x : Value). replied x.number x.value) (is v (subst (λ (s : Sheet). call s v) (holds_record r g h) w))

  lent : {area later : List ℕ} {reply : Reply} → most_lines r.marks ≤ length area → Lends (Listed most_marks) (form r) area reply later
      → (reply.place ≡ 0) × Given r area (record { number = reply.answer; value = reply.value }) later
  lent l (Lends.unread u) = absurd (holds_some r g u)
  lent {area} {later} l (Lends.lent {v = v} h w) =
      (refl, list_afresh r g area v later l (subst (λ (s : Sheet). Listed most_marks s area v later) (holds_record r g h) w))

  of_form : WorkedOutIn r (form r)
  of_form = record {
    each_kept = λ k b w. told (KeptAt k b) (sum_in r.marks b (quantity k r)) (λ v e. e ∙ ap (λ (n : ℕ). record { number = 0; value = n }) (kept_afresh k b)) w;
    list = λ l w. lent l w;
    total = λ w. told (Totalled most_marks) (total_of r) (λ v e. total_afresh r g v e) w;
    class_size = λ w. told (ClassSize most_marks) (size_of r.marks (in_class r)) (λ v e. size_afresh r g v e) w;
  }

-- beginnings

open_accepted : (m : ℕ) → (open_of most_marks entries m).number ≡ 0 → marks_ok most_marks m ≡ true
open_accepted m z =
    if (marks_ok most_marks m) (λ e. e) (λ e. absurd (omega (arith, ap (λ (a : Answer). a.number) (open_refused most_marks entries m e))))

open_under_accepted : (m : ℕ) (groups : List ℕ) → (open_under_of most_marks entries m groups).number ≡ 0 → (marks_ok most_marks m ≡ true) × (names_ok m groups ≡ true)
open_under_accepted m groups z =
    if (marks_ok most_marks m)
    (λ e. (e, if (names_ok m groups) (λ ok. ok) (λ no. absurd (omega (arith, ap (λ (a : Answer). a.number) (open_under_faulty most_marks entries m groups e no))))))
    (λ e. absurd (omega (arith, ap (λ (a : Answer). a.number) (open_under_refused most_marks entries m groups e))))

pub good_drawn : {t : List ℕ} {r : Record} → PlaSays most_marks t (good r) → Good r
good_drawn p = record { marks = drawn_marks p; profile = (drawn_storable p).profile; obeys = (drawn_storable p).obeys; standing = drawn_combination p; times = (drawn_storable p).held_le_most; apart = λ c e. drawn_times p c }

pub pla_drawn : {t : List ℕ} {r : Record} → PlaSays most_marks t (good r) → (a : Read) → ReadsPla most_marks entries t a → a ≡ read_of entries (good r)
pla_drawn p a x = x.is ∙ ap (read_of entries) (says_one_outcome x.run p)

-- what 01's form is read as
pub first_read : {t : List ℕ} {r : Record} → ReadingBy First most_marks t (good r) → (a : Read) → ReadsBy First most_marks entries t a → a ≡ read_of entries (good r)
first_read y a x = x.is ∙ ap (read_of entries) (one x.run y)

pub begins_good : {s : Sheet} {r : Record} → Begins s r → Good r × (s ≡ sheet_of entries r)
begins_good (Begins.opening m z) =
    let e = open_accepted m z in (good_opened m e, sym (ap (λ (a : Answer). a.sheet) (open_done most_marks entries m e)))
begins_good (Begins.opening_under m groups z) =
    let e = open_under_accepted m groups z in (
      good_opened_under m (profile_of groups) e.0 (and_right (count_ok (length groups)) _ e.1),
      sym (ap (λ (a : Answer). a.sheet) (open_under_done most_marks entries m groups e.0 e.1)),
    )
begins_good (Begins.reading layout b x y) =
    (good_read layout b y, ap (λ (a : Read). a.sheet) (x.is ∙ ap (read_of entries) (one x.run y)))
begins_good (Begins.drawing {a = a} x p) = (good_drawn p, ap (λ (y : Read). y.sheet) (pla_drawn p a x))

pub begins_in_good : {t : List ℕ} {r : Record} → BeginsIn t r → Good r × (t ≡ form r)
begins_in_good (BeginsIn.opening m p z) = let w = open_begins m p z in (good_opened m w.0, w.1)
begins_in_good (BeginsIn.opening_under m groups p z) =
    let w = open_under_begins m groups p z in (good_opened_under m (profile_of groups) w.0 (and_right (count_ok (length groups)) _ w.1), w.2)
begins_in_good (BeginsIn.reading {t} b y) = (good_read Today b y, (is-form Today t b y).bytes)
begins_in_good (BeginsIn.converting {r = r} b c z y) = let g = good_read First b y in (g, read_begins r g (first_read y) c z)
begins_in_good (BeginsIn.drawing {r = r} c z p) = let g = good_drawn p in (g, read_begins r g (pla_drawn p) c z)

-- every sequence

calls : {s : Sheet} {r : Record} → Begins s r → (ks : List Call)
    → (numbers_of number_given sheet_after s ks ≡ numbers_of number_of after r ks) × WorkedOut (after_all after r ks) (after_all sheet_after s ks)
calls {s} {r} x ks =
    let w = begins_good x in
    let g = w.0 in (
      ap (λ (u : Sheet). numbers_of number_given sheet_after u ks) w.1 ∙ answers_afresh r g ks,
      worked_out (after_all after r ks) (good_all r g ks) (ap (λ (u : Sheet). after_all sheet_after u ks) w.1 ∙ sheet_afresh r g ks),
    )

journeys : {s z : Sheet} {r : Record} {es : List Event} {ns : List ℕ} → Begins s r → Lives s es ns z
    → (ns ≡ numbers_of event_number after_event r es) × WorkedOut (after_all after_event r es) z
journeys {s} {z} {r} {es} {ns} x l =
    let w = begins_good x in
    let k = lives_afresh r w.0 (subst (λ (u : Sheet). Lives u es ns z) w.1 l) in
    (k.0, worked_out (after_all after_event r es) (good_events r w.0 es) k.1)

through_c : {t z : List ℕ} {r : Record} {es : List Entry} {ns : List ℕ} → BeginsIn t r → Serves t es ns z
    → (ns ≡ numbers_of entry_number after_entry r es) × WorkedOutIn (after_all after_entry r es) z
through_c {t} {z} {r} {es} {ns} x l =
    let w = begins_in_good x in
    let k = serves_afresh r w.0 (subst (λ (u : List ℕ). Serves u es ns z) w.1 l) in
    let q = after_all after_entry r es in
    (k.0, subst (WorkedOutIn q) (sym k.1) (of_form q (good_entries r w.0 es)))

pub demand_3 : Demand3
demand_3 = record {
  calls = calls;
  journeys = journeys;
  entries = through_c;
  alters = did_alters;
  touched = λ s k z. boxes_through s.marks (move_of s k).at (accepts s k z).low;
}
