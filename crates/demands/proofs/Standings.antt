-- Each sentence from the definition that says it: the order of tests, the soundness of a record, the laws of both layouts.
use Prim.Native.Nat.{ℕ, zero, suc, ◌+◌, ◌^◌, ◌<◌, ◌≤◌}
use mathlib.Core.Path.{◌≡◌, refl, sym, ◌∙◌, ap, ap₂, subst, fun_ext}
use mathlib.Core.Bool.{Bool, true, false, cond, ◌&&◌}
use mathlib.Core.List.{List, ◌∷◌, ◌++◌}
use native.Mathlib.Omega.{arith}
use lib.Dec.{eqb, ltb}
use lib.ListN.{length, drop}
use borrow.Author.Tests.{lt-leb, lt-ltb, eqb-true, eq-eqb, not-true}
use Rattle.ground.proofs.Cases.{if, below_or, and_left, and_right}
use Rattle.lists.specs.Lists.{covered}
use Rattle.tables.specs.Tables.{touched}
use Rattle.profiles.specs.Profiles.{settles}
use Rattle.profiles.specs.declared.Profile.TheVariants.{None}
use Rattle.classes.specs.Standings.{is, is_out, is_either, outs, eithers, tells}
use Rattle.classes.specs.declared.Standing.{Standing}
use Rattle.classes.specs.declared.Standing.TheVariants.{In, Out, Either}
use Rattle.sheet.specs.Limits.{most_marks, entries, marks_ok, amount_ok}
use Rattle.sheet.specs.Record.{Record, NoneEither, outside_counts, either_counts, held_seconds, sheet_of}
use Rattle.sheet.specs.Sound.{own_in, record_of}
use Rattle.sheet.specs.declared.Sheet.{Sheet}
use Rattle.sheet.specs.Told.{Value}
use Rattle.sheet.proofs.Kept.{told_back}
use Rattle.changes.specs.Calls.{fits_amount, amount_no}
use Rattle.changes.specs.declared.Call.TheVariants.{Change, Receive}
use Rattle.changes.proofs.Tests.{change_own, amount_2, amount_4, amount_last, amount_0}
use Rattle.totals.specs.Totals.{Totalled}
use Rattle.stored.specs.Fields.{Bytes, good, ReadingBy}
use Rattle.stored.specs.Form.{section, profile_bytes, form_by, form}
use Rattle.stored.specs.declared.Section.TheVariants as Sections
use Rattle.stored.specs.declared.Section.TheVariants.{Class, Held}
use Rattle.stored.specs.Answers.{ReadsBy, Writes}
use Rattle.stored.specs.declared.Layout.TheVariants.{First}
use Rattle.stored.specs.Told.{Read}
use Rattle.stored.proofs.IsForm.{is-form, first_none, first_tells}
use Rattle.stored.proofs.UpTo.{up_to_low, up_to_high}
use Rattle.stored.proofs.Back.{cut, reads_back}
use Rattle.histories.specs.Histories.{Good, number_of, accepted}
use Rattle.histories.proofs.Afresh.{out_above}
use Rattle.histories.proofs.Histories.{good_all}
use Rattle.histories.proofs.Travels.{good_storable, good_read, form-kept}
use Rattle.lent.specs.Entries.{valued, Put, ChangesBy, same}
use Rattle.lent.specs.declared.Reply.{Reply}
use Rattle.demands.specs.Demand2.{Lines}
use Rattle.demands.specs.Standings.{Converted, Standings}
use Rattle.demands.proofs.Demand3.{first_read, begins_good}

-- own numbers

no_fourth : (o e : ℕ) → o + e ≤ 1 → (s : Standing) × (o ≡ outs s) × (e ≡ eithers s)
no_fourth zero zero l = (In, refl, refl)
no_fourth zero (suc zero) l = (Either, refl, refl)
no_fourth zero (suc (suc e)) l = absurd (omega arith)
no_fourth (suc zero) zero l = (Out, refl, refl)
no_fourth (suc zero) (suc e) l = absurd (omega arith)
no_fourth (suc (suc o)) e l = absurd (omega arith)

-- calls on a record

changes : (r : Record) (to : Standing) (c : ℕ) → c < 2 ^ r.marks → settles r.marks r.profile c ≡ false → is to (r.standing c) ≡ false → (is_either to ≡ true → r.times c ≡ 0) → number_of r (Change to c) ≡ 0
changes r to c low free other none = rw (lt-leb (2 ^ r.marks) c low, free, other) (ap (λ (t : Bool). cond t 12 0) apart)
  where
    apart : (is_either to && ltb 0 (r.times c)) ≡ false
    apart = if (is_either to) (λ e. rw (e, none e)) (λ e. rw e)

stands : (r : Record) (to : Standing) (c : ℕ) → (accepted r (Change to c)).standing c ≡ to
stands r to c = rw (eq-eqb c c refl)

twelve : (r : Record) (c : ℕ) → c < 2 ^ r.marks → settles r.marks r.profile c ≡ false → is_either (r.standing c) ≡ false → 0 < r.times c → number_of r (Change Either c) ≡ 12
twelve r c low free other some = rw (lt-leb (2 ^ r.marks) c low, free, other, lt-ltb 0 (r.times c) some)

receipt : (r : Record) (c d : ℕ) → c < 2 ^ r.marks → amount_ok d ≡ true → is_either (r.standing c) ≡ true → number_of r (Receive c d) ≡ 12
receipt r c d low amount e = rw (lt-leb (2 ^ r.marks) c low, amount, e)

-- and on any sheet

untold : (o e : ℕ) → 1 < o + e → tells Either o e ≡ false
untold o e l = if (tells Either o e) (λ t. absurd (omega (arith, eqb-true o 0 (and_left _ _ t), eqb-true e 1 (and_right (eqb o 0) _ t)))) (λ t. t)

receipt_untold : (s : Sheet) (c d : ℕ) → marks_ok most_marks s.marks ≡ true → 1 < own_in outside_counts s c + own_in either_counts s c
    → let n = amount_no most_marks true s c d in (n ≡ 12 → ⊥) × (n ≡ 7 → ⊥)
receipt_untold s c d marks l =
    let told = untold (own_in outside_counts s c) (own_in either_counts s c) l in
    below_or c (2 ^ s.marks)
    (λ low. if (amount_ok d)
    (λ amount. if (touched s.marks c (fits_amount true d s.held))
    (λ e. neither (amount_0 most_marks true s c d marks low amount told e) (omega arith) (omega arith))
    (λ e. neither (amount_last most_marks true s c d marks low amount told e) (omega arith) (omega arith)))
    (λ e. neither (amount_4 most_marks true s c d marks low e) (omega arith) (omega arith)))
    (λ h. neither (amount_2 most_marks true s c d marks h) (omega arith) (omega arith))
  where
    neither : {n k : ℕ} → n ≡ k → (k ≡ 12 → ⊥) → (k ≡ 7 → ⊥) → (n ≡ 12 → ⊥) × (n ≡ 7 → ⊥)
    neither e a b = (λ z. a (sym e ∙ z), λ z. b (sym e ∙ z))

time : (s : Sheet) (c : ℕ) {v : Value} → c < 2 ^ s.marks → tells Either (own_in outside_counts s c) (own_in either_counts s c) ≡ true → 0 < own_in held_seconds s c
    → Totalled most_marks s v → v ≡ record { number = 7; value = 0 }
time s c low either some (Totalled.spoiled n) = refl
time s c low either some (Totalled.told w) = absurd (omega (arith, w.times.apart c low either, some))

-- lists

none_out : {r : Record} {l : List ℕ} → Lines r l → (c : ℕ) → covered r.marks l c ≡ true → is_out (r.standing c) ≡ false
none_out {r} x c e = not-true (is_out (r.standing c)) (x.right.fits.inside c e)

-- the stored form

stored_sections : (r : Record) → form r ≡ r.marks ∷ (section Class r ++ (section Sections.Either r ++ (section Held r ++ profile_bytes r.profile)))
unfolding form_by
stored_sections r = refl

-- a record with nothing at 2^m and above is what is read of its form
cut_same : (r : Record) → Good r → ((c : ℕ) → 2 ^ r.marks ≤ c → r.times c ≡ 0) → cut r ≡ r
cut_same r g none =
    let N = 2 ^ r.marks in
    ap₂ (λ (f : ℕ → Standing) (g : ℕ → ℕ). record { marks = r.marks; profile = r.profile; standing = f; times = g })
    (fun_ext (λ c. below_or c N (λ l. up_to_low Out r.standing N c l) (λ l. up_to_high Out r.standing N c l ∙ sym (out_above r g c l))))
    (fun_ext (λ c. below_or c N (λ l. up_to_low 0 r.times N c l) (λ l. up_to_high 0 r.times N c l ∙ sym (none c l))))

old_reads : (r : Record) → Good r → NoneEither r → r.profile ≡ None → ((c : ℕ) → 2 ^ r.marks ≤ c → r.times c ≡ 0) → ReadingBy First most_marks (form_by First r) (good r)
old_reads r g plain bare none =
    subst (λ (q : Record). ReadingBy First most_marks (form_by First r) (good q)) (cut_same r g none)
    (reads_back First r (omega arith) (good_storable g) (first_tells r (λ c l. plain c) bare))

wrote_converted : {r : Record} {s : Sheet} {out later : List ℕ} {v : Value} → form (record_of s) ≡ form r → Writes most_marks s out v later → v.number ≡ 0
    → Converted r out (valued v) later
wrote_converted e (Writes.spoiled n) z = absurd (omega arith)
wrote_converted e (Writes.short w l) z = absurd (omega arith)
wrote_converted {out = out} e (Writes.written w l) z =
    record { size = ap length e; stands = ap (λ (x : List ℕ). x ++ drop (length x) out) e }

put_converted : {r : Record} {out later : List ℕ} {reply : Reply} (s : Sheet) → form (record_of s) ≡ form r → Put (same s) out reply later → reply.answer ≡ 0
    → Converted r out reply later
put_converted s e (Put.refused n) z = absurd (n refl)
put_converted s e (Put.written y w) z = wrote_converted e w z

converts : {t out later : List ℕ} {reply : Reply} {r : Record} → Bytes t → ReadingBy First most_marks t (good r)
    → ChangesBy (ReadsBy First most_marks entries t) same out reply later → reply.answer ≡ 0 → Converted r out reply later
converts b y (ChangesBy.unread u) z = absurd (u.bad (sym (ap (λ (x : Reply). x.answer) u.reply) ∙ z))
converts {r = r} b y (ChangesBy.called {s = s} h p) z =
    let g = good_read First b y in
    let is : s ≡ sheet_of entries r = sym h.sheet ∙ ap (λ (a : Read). a.sheet) (first_read y h.read h.reads) in
    put_converted s (ap (λ (x : Sheet). form (record_of x)) is ∙ form-kept r g) p z

pub standings : Standings
standings = record {
  three = told_back;
  no_fourth = no_fourth;
  changes = changes;
  stands = stands;
  three_first = λ r to c low free same. rw (lt-leb (2 ^ r.marks) c low, free, same);
  twelve = twelve;
  receipt = receipt;
  seven = λ s to c marks low free l. change_own most_marks to s c marks low free l;
  receipt_untold = receipt_untold;
  time = time;
  apart = λ b ks c e. let w = begins_good b in (good_all _ w.0 ks).apart c e;
  covers = λ x. x.right.fits.covers;
  none_out = none_out;
  sections = stored_sections;
  old = λ {t} b y. let k = is-form First t b y in (first_none k, k.bytes);
  old_reads = old_reads;
  converts = converts;
}
