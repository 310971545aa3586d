-- The bytes of a record read as its sheet; the call is made on that; what is left is written as the form of the record after the call.
use Prim.Native.Nat.{ℕ}
use mathlib.Core.Path.{◌≡◌, refl, sym, ◌∙◌, ap, ap₂, subst}
use mathlib.Core.Bool.{Bool, true, cond}
use mathlib.Core.List.{List, [], ◌∷◌}
use native.Mathlib.Omega.{arith}
use lib.Dec.{eqb}
use lib.ListN.{length, take}
use borrow.Author.Tests.{eq-eqb, ne_eqb}
use Rattle.ground.proofs.Cases.{if, and_right}
use Rattle.profiles.specs.Profiles.{count_ok, profile_of, names_ok}
use Rattle.sheet.specs.Limits.{most_marks, entries, marks_ok}
use Rattle.sheet.specs.Record.{Record, sheet_of, opened_under, opened}
use Rattle.sheet.specs.Answers.{open_of, open_under_of}
use Rattle.sheet.specs.declared.Sheet.{Sheet}
use Rattle.sheet.specs.Told.{Answer}
use Rattle.sheet.proofs.Answers.{open_done, open_refused, open_under_done, open_under_faulty, open_under_refused}
use Rattle.stored.specs.Answers.{read_of, Reads}
use Rattle.stored.specs.Fields.{good}
use Rattle.stored.specs.Form.{form}
use Rattle.stored.specs.Told.{Read}
use Rattle.stored.proofs.Trips.{form_same_sheet, writes_done}
use Rattle.histories.specs.Histories.{Good, after_all, numbers_of}
use Rattle.histories.specs.Travels.{event_number, travel}
use Rattle.histories.proofs.Kept.{did_kept}
use Rattle.histories.proofs.Goods.{good_after, good_opened, good_opened_under}
use Rattle.histories.proofs.Travels.{form-kept, written_number, five, good_storable}
use Rattle.lent.specs.declared.Reply.{Reply}
use Rattle.lent.specs.Entries.{Holds, HoldsNone, Put, ChangesBy, Changes, same}
use Rattle.vault.specs.Sequences.{Entry, changing, copying, lent_to, call_of, Serves, rests, accepted, refused, call_number, called, entry_number, after_entry}

reads_form : (r : Record) → Good r → {a : Read} → Reads most_marks entries (form r) a → a ≡ read_of entries (good r)
reads_form r g {a} x =
    form_same_sheet 5 entries five (omega arith) r (good_storable g) (subst (λ (t : List ℕ). Reads most_marks entries t a) (sym (form-kept r g)) x)

-- the bytes of a record hold its sheet
pub holds_record : (r : Record) → Good r → {s : Sheet} → Holds (form r) s → s ≡ sheet_of entries r
holds_record r g h = sym h.sheet ∙ ap (λ (a : Read). a.sheet) (reads_form r g h.reads)

pub holds_some : {A : Type 0} {refusal : Read → A} (r : Record) → Good r → {reply : A} → HoldsNone refusal (form r) reply → ⊥
holds_some r g u = u.bad (ap (λ (a : Read). a.number) (reads_form r g u.reads))

-- on the record's sheet: the call's number, and the sheet of the record that it leaves
called-kept : (r : Record) → Good r → (e : Entry) → call_of e (sheet_of entries r) ≡ record { number = call_number r e; sheet = sheet_of entries (called r e) }
called-kept r g (changing k out) = did_kept r g k
called-kept r g (copying out) = refl

good_called : (r : Record) → Good r → (e : Entry) → Good (called r e)
good_called r g (changing k out) = good_after r g k
good_called r g (copying out) = g

-- one entry: its number; and where that is 0, the form of the record after the call, at the front of what was lent
pub record EntryKept (r : Record) (e : Entry) (reply : Reply) (later : List ℕ) : Type 0 where
  pub number : reply.answer ≡ entry_number r e
  pub done : reply.answer ≡ 0 → take reply.value later ≡ form (called r e)

put_kept : (r : Record) → Good r → (e : Entry) {reply : Reply} {later : List ℕ}
    → Put (record { number = call_number r e; sheet = sheet_of entries (called r e) }) (lent_to e) reply later → EntryKept r e reply later
put_kept r g e (Put.refused n) = record {
  number = ap (λ (t : Bool). cond t (event_number (called r e) (travel (lent_to e))) (call_number r e)) (sym (ne_eqb (call_number r e) 0 n));
  done = λ z. absurd (n z);
}
put_kept r g e (Put.written {v = v} z w) =
    let a = good_called r g e in
    record {
      number = written_number (called r e) a w
          ∙ ap (λ (t : Bool). cond t (event_number (called r e) (travel (lent_to e))) (call_number r e)) (sym (eq-eqb (call_number r e) 0 z));
      done = λ d. (writes_done w d).1 ∙ form-kept (called r e) a;
    }

entry_kept : (r : Record) → Good r → (e : Entry) {reply : Reply} {later : List ℕ} → Changes (call_of e) (form r) (lent_to e) reply later → EntryKept r e reply later
entry_kept r g e (ChangesBy.unread u) = absurd (holds_some r g u)
entry_kept r g e {reply} {later} (ChangesBy.called {s = s} t p) =
    put_kept r g e (subst (λ (a : Answer). Put a (lent_to e) reply later) (ap (call_of e) (holds_record r g t) ∙ called-kept r g e) p)

good_entry : (r : Record) → Good r → (e : Entry) → Good (after_entry r e)
good_entry r g e =
    if (eqb (entry_number r e) 0)
    (λ q. subst (λ (t : Bool). Good (cond t (called r e) r)) (sym q) (good_called r g e))
    (λ q. subst (λ (t : Bool). Good (cond t (called r e) r)) (sym q) g)

-- demand 3: after every sequence of entries the bytes are the form of the record worked out from the accepted calls, and every answer is the record's
from : (r : Record) → Good r → {t : List ℕ} {es : List Entry} {ns z : List ℕ} → t ≡ form r → Serves t es ns z
    → (ns ≡ numbers_of entry_number after_entry r es) × (z ≡ form (after_all after_entry r es))
unfolding numbers_of after_all
from r g q rests = (refl, q)
from r g q (accepted {later = later} e {r = reply} c d l) =
    let w = entry_kept r g e (subst (λ (x : List ℕ). Changes (call_of e) x (lent_to e) reply later) q c) in
    let new : after_entry r e ≡ called r e = ap (λ (t : Bool). cond t (called r e) r) (eq-eqb (entry_number r e) 0 (sym w.number ∙ d)) in
    let i = from (after_entry r e) (good_entry r g e) (w.done d ∙ ap form (sym new)) l in
    (ap₂ (λ (x : ℕ) (y : List ℕ). x ∷ y) w.number i.0, i.1)
from r g q (refused {later = later} e {r = reply} c d l) =
    let w = entry_kept r g e (subst (λ (x : List ℕ). Changes (call_of e) x (lent_to e) reply later) q c) in
    let old : after_entry r e ≡ r = ap (λ (t : Bool). cond t (called r e) r) (ne_eqb (entry_number r e) 0 (λ z. d (w.number ∙ z))) in
    let i = from (after_entry r e) (good_entry r g e) (q ∙ ap form (sym old)) l in
    (ap₂ (λ (x : ℕ) (y : List ℕ). x ∷ y) w.number i.0, i.1)

pub good_entries : (r : Record) → Good r → (es : List Entry) → Good (after_all after_entry r es)
unfolding after_all
good_entries r g [] = g
good_entries r g (e ∷ es) = good_entries (after_entry r e) (good_entry r g e) es

pub serves_afresh : (r : Record) → Good r → {es : List Entry} {ns z : List ℕ} → Serves (form r) es ns z → (ns ≡ numbers_of entry_number after_entry r es) × (z ≡ form (after_all after_entry r es))
serves_afresh r g l = from r g refl l

-- it begins with what `vault_open` wrote: the form of an opened sheet's record; a refused one writes nothing

written-form : (r : Record) → Good r → {out later : List ℕ} {reply : Reply} → Put (record { number = 0; sheet = sheet_of entries r }) out reply later → reply.answer ≡ 0
    → take reply.value later ≡ form r
written-form r g (Put.refused n) z = absurd (n refl)
written-form r g (Put.written y w) z = (writes_done w z).1 ∙ form-kept r g

not_written : (n : ℕ) (s : Sheet) {out later : List ℕ} {reply : Reply} → (n ≡ 0 → ⊥) → Put (record { number = n; sheet = s }) out reply later → reply.answer ≡ 0 → ⊥
not_written n s some (Put.refused k) z = some z
not_written n s some (Put.written y w) z = some y

pub open_begins : (m : ℕ) {out later : List ℕ} {reply : Reply} → Put (open_of most_marks entries m) out reply later → reply.answer ≡ 0
    → (marks_ok most_marks m ≡ true) × (take reply.value later ≡ form (opened m))
open_begins m {out} {later} {reply} p z =
    if (marks_ok most_marks m)
    (λ e. (e, written-form (opened m) (good_opened m e) (subst (λ (a : Answer). Put a out reply later) (sym (open_done 5 entries m e)) p) z))
    (λ e. absurd (not_written 1 (sheet_of entries (opened 1)) (omega arith) (subst (λ (a : Answer). Put a out reply later) (sym (open_refused 5 entries m e)) p) z))

-- or `vault_open_profile`: that of a sheet opened under the profile
pub open_under_begins : (m : ℕ) (groups : List ℕ) {out later : List ℕ} {reply : Reply} → Put (open_under_of most_marks entries m groups) out reply later → reply.answer ≡ 0
    → (marks_ok most_marks m ≡ true) × (names_ok m groups ≡ true) × (take reply.value later ≡ form (opened_under m (profile_of groups)))
open_under_begins m groups {out} {later} {reply} p z =
    let told_so : (a : Answer) → a ≡ open_under_of most_marks entries m groups → Put a out reply later = λ a e. subst (λ (a : Answer). Put a out reply later) (sym e) p in
    if (marks_ok most_marks m)
    (λ e. if (names_ok m groups)
    (λ ok. (
      e,
      ok,
      written-form (opened_under m (profile_of groups)) (good_opened_under m (profile_of groups) e (and_right (count_ok (length groups)) _ ok))
          (told_so _ (open_under_done 5 entries m groups e ok)) z,
    ))
    (λ no. absurd (not_written 13 (sheet_of entries (opened 1)) (omega arith) (told_so _ (open_under_faulty 5 entries m groups e no)) z)))
    (λ e. absurd (not_written 1 (sheet_of entries (opened 1)) (omega arith) (told_so _ (open_under_refused 5 entries m groups e)) z))

-- or with what was read as the sheet of a record, whichever way of reading, and written
pub read_begins : {R : Read → Type 0} (r : Record) → Good r → ((a : Read) → R a → a ≡ read_of entries (good r)) → {out later : List ℕ} {reply : Reply}
    → ChangesBy R same out reply later → reply.answer ≡ 0 → take reply.value later ≡ form r
read_begins r g is (ChangesBy.unread u) z = absurd (u.bad (sym (ap (λ (x : Reply). x.answer) u.reply) ∙ z))
read_begins r g is {out} {later} {reply} (ChangesBy.called h p) z =
    let e = sym h.sheet ∙ ap (λ (a : Read). a.sheet) (is h.read h.reads) in
    written-form r g (subst (λ (s : Sheet). Put (same s) out reply later) e p) z
