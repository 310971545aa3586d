-- The two ways of a call on lent bytes: the bytes are no sheet, or the call's own answer goes into the reply.
use Prim.Native.Nat.{ℕ, ◌+◌, ◌^◌, ◌<◌}
use mathlib.Core.Path.{◌≡◌, refl, sym, ◌∙◌, ap, subst}
use mathlib.Core.Bool.{Bool, true, false, not, ◌&&◌, false≢true}
use mathlib.Core.List.{List}
use native.Mathlib.Omega.{arith}
use lib.Dec.{eqb, leb, ltb}
use lib.ListN.{length, get_or}
use borrow.Author.Tests.{eq-eqb}
use Rattle.std.specs.Prelude.{Result, Ok, Err, IsErrAnd, cond}
use Rattle.std.specs.Int.{from_bool}
use Rattle.ground.specs.Decides.{Decides}
use Rattle.lists.specs.Lists.{Before}
use Rattle.refusals.specs.Numbers.{number_of}
use Rattle.refusals.specs.declared.Refusal.{Refusal}
use Rattle.refusals.proofs.Settled.{never_done, no_place}
use Rattle.tables.proofs.Entries.{tab-length}
use Rattle.profiles.specs.Profiles.{settles}
use Rattle.classes.specs.Standings.{is_either, tells}
use Rattle.sheet.specs.Limits.{most_marks, entries, marks_ok}
use Rattle.sheet.specs.Record.{Record, Table, outside_counts, either_counts, held_seconds, kept, opened, sheet_of}
use Rattle.sheet.specs.Entries.{Long}
use Rattle.sheet.specs.Answers.{open_of, open_under_of}
use Rattle.sheet.specs.Sound.{Ready, own_in}
use Rattle.sheet.specs.declared.Refused.{Refused}
use Rattle.sheet.specs.declared.Sheet.{Sheet}
use Rattle.sheet.specs.Told.{Answer, Value, value_of, opening_of}
use Rattle.changes.specs.Calls.{counts_fit, change_no, amount_no, did_of}
use Rattle.classes.specs.declared.Standing.{Standing}
use Rattle.changes.specs.declared.Call.{Call}
use Rattle.changes.specs.declared.Call.TheVariants.{Change, Receive, Withdraw}
use Rattle.listing.specs.Listing.{Listed}
use Rattle.stored.specs.Answers.{read_of, ReadsBy, Reads, Writes}
use Rattle.stored.specs.declared.Layout.{Layout}
use Rattle.stored.specs.Fields.{Outcome, good, refused}
use Rattle.stored.specs.Told.{Read, read_as}
use Rattle.stored.proofs.Trips.{read_sound}
use Rattle.pla.specs.Answers.{WritesPla}
use Rattle.lent.specs.declared.Reply.{Reply}
use Rattle.lent.specs.Entries.{reply_of, valued, no_reply, HoldsBy, HoldsNoneBy, Holds, HoldsNone, Put, ChangesBy, Lends, Compared, same}

-- whichever way of reading, what was read or its refusal

pub holds : {R : Read → Type 0} (s : Sheet) → R (read_as (Ok s)) → HoldsBy R s
holds s reads = record { read = read_as (Ok s); reads = reads; good = refl; sheet = refl }

pub holds_none : {A : Type 0} {R : Read → Type 0} (refusal : Read → A) (e : Refused) → R (read_as (Err e)) → HoldsNoneBy R refusal (refusal (read_as (Err e)))
holds_none refusal e reads = record { read = read_as (Err e); reads = reads; bad = never_done e.refusal; reply = refl }

-- what was read, of which the sheet or the refusal alone is handed on

pub the_sheet : {t : List ℕ} (r : Result Sheet Refused) (s : Sheet) → r ≡ Ok s → Reads most_marks entries t (read_as r) → Reads most_marks entries t (read_as (Ok s))
the_sheet {t} r s e reads = subst (λ (x : Result Sheet Refused). Reads most_marks entries t (read_as x)) e reads

pub no_sheet : {A : Type 0} {t : List ℕ} (refusal : Read → A) (told : Refusal → A) → ((x : Refused) → told x.refusal ≡ refusal (read_as (Err x)))
    → (r : Result Sheet Refused) (e : Refusal) → IsErrAnd r (λ x. e ≡ x.refusal) → Reads most_marks entries t (read_as r) → HoldsNone refusal t (told e)
no_sheet refusal told same (Ok s) e p reads = absurd p
no_sheet {t = t} refusal told same (Err x) e p reads = subst (HoldsNone refusal t) (sym (ap told p ∙ same x)) (holds_none refusal x reads)

pub no_read : (r : Result Sheet Refused) (e : Refusal) → IsErrAnd r (λ x. e ≡ x.refusal) → HoldsNoneBy (λ (a : Read). a ≡ read_as r) no_reply (reply_of (Err e))
no_read (Ok s) e p = absurd p
no_read (Err x) e p = subst (λ (q : Refusal). HoldsNoneBy (λ (a : Read). a ≡ read_as (Err x)) no_reply (reply_of (Err q))) (sym p) (holds_none no_reply x refl)

-- a result whose number is not 10 has no place

pub placeless : (r : Result ℕ Refusal) → ((value_of r).number ≡ 10 → ⊥) → reply_of r ≡ valued (value_of r)
placeless (Ok v) n = refl
placeless (Err e) n = ap (λ (p : ℕ). record { answer = number_of e; place = p; value = 0 }) (no_place e n)

other : (n : ℕ) → eqb n 10 ≡ false → n ≡ 10 → ⊥
other n e h = false≢true (sym e ∙ eq-eqb n 10 h)

either_no_ten : (b : Bool) {x y : ℕ} → (x ≡ 10 → ⊥) → (y ≡ 10 → ⊥) → cond b x y ≡ 10 → ⊥
either_no_ten true n k e = n e
either_no_ten false n k e = k e

module _ (s : Sheet) where
  amount_no_ten : (more : Bool) (c d : ℕ) → amount_no most_marks more s c d ≡ 10 → ⊥
  unfolding amount_no
  amount_no_ten more c d =
      either_no_ten _ (other 7 refl) (either_no_ten _ (other 2 refl) (either_no_ten _ (other 4 refl) (either_no_ten _ (other 12 refl)
      (either_no_ten _ (either_no_ten more (other 8 refl) (other 9 refl)) (other 0 refl)))))

  change_no_ten : (to : Standing) (c : ℕ) → change_no most_marks to s c ≡ 10 → ⊥
  unfolding change_no
  change_no_ten to c =
      let o = own_in outside_counts s c in
      let e = own_in either_counts s c in
      either_no_ten (not (marks_ok most_marks s.marks)) (other 7 refl)
      (either_no_ten (leb (2 ^ s.marks) c) (other 2 refl)
      (either_no_ten (settles s.marks s.profile c) (other 12 refl)
      (either_no_ten (ltb 1 (o + e)) (other 7 refl)
      (either_no_ten (tells to o e) (other 3 refl)
      (either_no_ten (is_either to && ltb 0 (own_in held_seconds s c)) (other 12 refl)
      (either_no_ten (not (counts_fit to s c)) (other 7 refl) (other 0 refl)))))))

  pub did_no_ten : (k : Call) → (did_of most_marks s k).number ≡ 10 → ⊥
  did_no_ten (Change to c) = change_no_ten to c
  did_no_ten (Receive c d) = amount_no_ten true c d
  did_no_ten (Withdraw c d) = amount_no_ten false c d

either_opening : (b : Bool) (a z : Answer) → (a.number ≡ 10 → ⊥) → (z.number ≡ 10 → ⊥) → (cond b a z).number ≡ 10 → ⊥
either_opening true a z n k e = n e
either_opening false a z n k e = k e

pub open_no_ten : (m : ℕ) → (open_of most_marks entries m).number ≡ 10 → ⊥
open_no_ten m = either_opening _ _ _ (other 0 refl) (other 1 refl)

pub open_under_no_ten : (m : ℕ) (groups : List ℕ) → (open_under_of most_marks entries m groups).number ≡ 10 → ⊥
open_under_no_ten m groups = either_opening _ _ _ (either_opening _ _ _ (other 0 refl) (other 13 refl)) (other 1 refl)

pub writes_no_ten : {s : Sheet} {out later : List ℕ} {v : Value} → Writes most_marks s out v later → v.number ≡ 10 → ⊥
writes_no_ten (Writes.spoiled n) e = omega (arith, e)
writes_no_ten (Writes.short r l) e = omega (arith, e)
writes_no_ten (Writes.written r l) e = omega (arith, e)

pub listed_no_ten : {s : Sheet} {area later : List ℕ} {v : Value} → Listed most_marks s area v later → v.number ≡ 10 → ⊥
listed_no_ten (Listed.spoiled n) e = omega (arith, e)
listed_no_ten (Listed.short r l) e = omega (arith, e)
listed_no_ten (Listed.given r l w) e = omega (arith, e)

pub pla_no_ten : {s : Sheet} {out later : List ℕ} {v : Value} → WritesPla most_marks s out v later → v.number ≡ 10 → ⊥
pla_no_ten (WritesPla.spoiled n) e = omega (arith, e)
pla_no_ten (WritesPla.short r f l) e = omega (arith, e)
pla_no_ten (WritesPla.written r f l) e = omega (arith, e)

-- an answer, put into a lent area
pub value_lent : (call : Sheet → List ℕ → Value → List ℕ → Type 0) {t area later : List ℕ} {s : Sheet} (r : Result ℕ Refusal) → Holds t s
    → call s area (value_of r) later → ((value_of r).number ≡ 10 → ⊥) → Lends call t area (reply_of r) later
value_lent call {t} {area} {later} r k w n = subst (λ (x : Reply). Lends call t area x later) (sym (placeless r n)) (Lends.lent k w)

-- a call's sheet, written, and its refusal

pub put_written : (a : Answer) {out later : List ℕ} (r : Result ℕ Refusal) → a.number ≡ 0 → Writes most_marks a.sheet out (value_of r) later → Put a out (reply_of r) later
put_written a {out} {later} r z w = subst (λ (x : Reply). Put a out x later) (sym (placeless r (writes_no_ten w))) (Put.written z w)

pub put_refused : (a : Answer) {out : List ℕ} (e : Refusal) → number_of e ≡ a.number → (a.number ≡ 10 → ⊥) → Put a out (reply_of (Err e)) out
put_refused a {out} e same n =
    subst (λ (x : Reply). Put a out x out)
    (sym (placeless (Err e) (λ t. n (sym same ∙ t)) ∙ ap (λ (k : ℕ). record { answer = k; place = 0; value = 0 }) same))
    (Put.refused (λ z. never_done e (same ∙ z)))

-- what was opened is written as what was read is

opening_put : (r : Result Sheet Refused) {out later : List ℕ} {p : Reply} → ((opening_of r).number ≡ 10 → ⊥) → ChangesBy (λ a. a ≡ read_as r) same out p later
    → Put (opening_of r) out p later
opening_put (Ok s) n (ChangesBy.unread u) = absurd (u.bad (ap (λ (a : Read). a.number) u.reads))
opening_put (Ok s) {out} {later} {p} n (ChangesBy.called h w) =
    subst (λ (x : Sheet). Put (same x) out p later) (sym h.sheet ∙ ap (λ (a : Read). a.sheet) h.reads) w
opening_put (Err e) {out} n (ChangesBy.unread u) =
    subst (λ (x : Reply). Put (opening_of (Err e)) out x out) (sym (u.reply ∙ ap no_reply u.reads)) (put_refused (opening_of (Err e)) e.refusal refl n)
opening_put (Err e) n (ChangesBy.called h w) = absurd (never_done e.refusal (sym (ap (λ (a : Read). a.number) h.reads) ∙ h.good))

pub opened_put : (r : Result Sheet Refused) (a : Answer) {out later : List ℕ} {p : Reply} → opening_of r ≡ a → (a.number ≡ 10 → ⊥)
    → ChangesBy (λ x. x ≡ read_as r) same out p later → Put a out p later
opened_put r a {out} {later} {p} e n c =
    subst (λ (x : Answer). Put x out p later) e (opening_put r (λ t. n (sym (ap (λ (x : Answer). x.number) e) ∙ t)) c)

pub opened_ready : (r : Result Sheet Refused) (a : Answer) → opening_of r ≡ a → Ready most_marks a.sheet → Ready most_marks (read_as r).sheet
opened_ready (Ok s) a e x = subst (λ (y : Answer). Ready most_marks y.sheet) (sym e) x
opened_ready (Err r) a e x = subst (λ (y : Answer). Ready most_marks y.sheet) (sym e) x

-- two lists
pub compared : (first second : List ℕ) (b : Bool) → Decides b (Before second first) → Compared first second (reply_of (Ok (from_bool b)))
compared first second true d = Compared.changes (d.yes refl)
compared first second false d = Compared.keeps (λ x. false≢true (d.sure x))

-- what is done with something that was read is done with what R reads, where R reads that
pub changes_read : {R : Read → Type 0} {call : Sheet → Answer} {a : Read} {out : List ℕ} {r : Reply} {later : List ℕ} → R a → ChangesBy (λ x. x ≡ a) call out r later
    → ChangesBy R call out r later
changes_read {R} x (ChangesBy.unread u) =
    ChangesBy.unread (record { read = u.read; reads = subst R (sym u.reads) x; bad = u.bad; reply = u.reply })
changes_read {R} x (ChangesBy.called h p) =
    ChangesBy.called (record { read = h.read; reads = subst R (sym h.reads) x; good = h.good; sheet = h.sheet }) p

-- what the bytes hold has as many entries as a sheet's tables have
pub holds_long : {t : List ℕ} {a : Read} → Reads most_marks entries t a → Long entries a.sheet
holds_long {t} {a} x = subst (λ (y : Read). Long entries y.sheet) (sym x.is) (long x.outcome)
  where
    afresh_long : (r : Record) (k : Table) → length (kept k (sheet_of entries r)) ≡ entries
    afresh_long r outside_counts = tab-length entries _
    afresh_long r either_counts = tab-length entries _
    afresh_long r held_seconds = tab-length entries _

    long : (o : Outcome) → Long entries (read_of entries o).sheet
    long (good r) = afresh_long r
    long (refused n p) = afresh_long (opened 1)

-- and is sound
pub holds_ready : (layout : Layout) (t : List ℕ) {a : Read} → ((i : ℕ) → get_or t i 0 < 256) → ReadsBy layout most_marks entries t a → Ready most_marks a.sheet
holds_ready layout t b x = read_sound most_marks entries (omega arith) layout (omega arith) t b x
