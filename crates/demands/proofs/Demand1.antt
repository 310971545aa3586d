-- Call by call: an answer of 0 has nothing to show, and any other is one of the refusals of its contract.
use Prim.Native.Nat.{ℕ, zero, suc, ◌+◌, ◌^◌}
use mathlib.Core.Path.{◌≡◌, refl, sym, ◌∙◌, ap, subst}
use mathlib.Core.Bool.{Bool, true, false, not, cond, ◌&&◌}
use mathlib.Core.List.{List, [], ◌∷◌}
use mathlib.Core.Logic.{◌⊎◌, ⊎_elim}
use lib.Dec.{leb, ltb}
use lib.ListN.{get_or}
use borrow.Author.Tests.{ne_eqb}
use Rattle.ground.proofs.Cases.{if, clash}
use Rattle.tables.specs.Tables.{touched}
use Rattle.profiles.specs.Profiles.{settles, profile_of, names_ok}
use Rattle.classes.specs.Standings.{is_either, tells}
use Rattle.classes.specs.declared.Standing.{Standing}
use Rattle.classes.specs.declared.Standing.TheVariants.{Either}
use Rattle.sheet.specs.Limits.{most_marks, entries, marks_ok, amount_ok}
use Rattle.sheet.specs.Record.{Table, outside_counts, either_counts, held_seconds, sheet_of, opened_under, opened}
use Rattle.sheet.specs.Sound.{own_in}
use Rattle.sheet.specs.Answers.{open_of, open_under_of, ClassSize}
use Rattle.sheet.specs.declared.Sheet.{Sheet}
use Rattle.sheet.specs.Told.{Answer}
use Rattle.sheet.specs.Told.{Value}
use Rattle.sheet.proofs.Answers.{open_done, open_refused, open_under_done, open_under_faulty, open_under_refused}
use Rattle.changes.specs.Calls.{counts_fit, fits_amount, change_no, amount_no, number_on, did_of, move_of, moved_sheet}
use Rattle.changes.specs.declared.Call.{Call}
use Rattle.changes.specs.declared.Call.TheVariants.{Change, Receive, Withdraw}
use Rattle.listing.specs.Listing.{Listed}
use Rattle.totals.specs.Totals.{Totalled}
use Rattle.stored.specs.Fields.{marks, due, Outcome, good, refused, Run}
use Rattle.stored.specs.Answers.{read_of, ReadBy, Writes}
use Rattle.stored.specs.Sections.{Rest}
use Rattle.stored.specs.Told.{Read}
use Rattle.stored.proofs.Refusals.{refusals}
use Rattle.pla.specs.Answers.{ReadsPla, WritesPla}
use Rattle.pla.proofs.Runs.{refusals as pla-refusals}
use Rattle.times.specs.Answers.{reading_of, Answered}
use Rattle.times.specs.declared.Time.{Time}
use Rattle.times.specs.declared.Reading.{Reading}
use Rattle.times.specs.declared.Time.TheVariants.{Value as Read_value, Fault}
use Rattle.checking.specs.Answers.{verdict_of}
use Rattle.checking.specs.Finding.{Finding}
use Rattle.checking.specs.Finding.Finding.{Spoiled, Fitting, Faulty}
use Rattle.checking.specs.declared.Verdict.{Verdict}
use Rattle.lent.specs.Entries.{no_reply, HoldsNoneBy, Put, ChangesBy, TellsAs, Tells, Judges, Lends, Compared, KeptAt, same}
use Rattle.lent.specs.declared.Reply.{Reply}
use Rattle.demands.specs.Calls.{Told, Lent, nothing, sheet, bytes, of_number, of_value, of_read, of_reading, of_verdict, of_reply, Made}
use Rattle.demands.specs.Demand1.{in_table, Refuses, Demand1}

-- a value of 0, or two, or none
nought : (i : ℕ) → ◌≡◌ {A = ℕ} (get_or (0 ∷ []) i 0) 0
nought zero = refl
nought (suc i) = refl

noughts : (i : ℕ) → ◌≡◌ {A = ℕ} (get_or (0 ∷ 0 ∷ []) i 0) 0
noughts zero = refl
noughts (suc i) = nought i

-- the ways an answer can be: done; refused by a number of the table without a place; refused by 10
done : {p : ℕ} {v : List ℕ} {a b : Lent} → p ≡ 0 → Refuses (record { answer = 0; place = p; values = v }) b a
done e = record { of_table = refl; leaves = λ n. absurd (n refl); no_value = λ n. absurd (n refl); no_place = λ n. e }

left : {n : ℕ} {v : List ℕ} {l : Lent} → in_table n ≡ true → ((i : ℕ) → get_or v i 0 ≡ 0) → Refuses (record { answer = n; place = 0; values = v }) l l
left h z = record { of_table = h; leaves = λ n. refl; no_value = λ n. z; no_place = λ n. refl }

placed : {p : ℕ} {v : List ℕ} {l : Lent} → ((i : ℕ) → get_or v i 0 ≡ 0) → Refuses (record { answer = 10; place = p; values = v }) l l
placed z = record { of_table = refl; leaves = λ n. refl; no_value = λ n. z; no_place = λ n. absurd (n refl) }

-- opening and changing

cond_in : (t : Bool) (x y : ℕ) → in_table x ≡ true → in_table y ≡ true → in_table (cond t x y) ≡ true
cond_in true x y h k = h
cond_in false x y h k = k

change_in : (most : ℕ) (to : Standing) (s : Sheet) (c : ℕ) → in_table (change_no most to s c) ≡ true
unfolding change_no
change_in most to s c =
    cond_in (not (marks_ok most s.marks)) 7 _ refl
    (cond_in (leb (2 ^ s.marks) c) 2 _ refl
    (cond_in (settles s.marks s.profile c) 12 _ refl
    (cond_in (ltb 1 (own_in outside_counts s c + own_in either_counts s c)) 7 _ refl
    (cond_in (tells to (own_in outside_counts s c) (own_in either_counts s c)) 3 _ refl
    (cond_in (is_either to && ltb 0 (own_in held_seconds s c)) 12 _ refl
    (cond_in (not (counts_fit to s c)) 7 0 refl refl))))))

amount_in : (most : ℕ) (more : Bool) (s : Sheet) (c d : ℕ) → in_table (amount_no most more s c d) ≡ true
unfolding amount_no
amount_in most more s c d =
    cond_in (not (marks_ok most s.marks)) 7 _ refl
    (cond_in (leb (2 ^ s.marks) c) 2 _ refl
    (cond_in (not (amount_ok d)) 4 _ refl
    (cond_in (more && tells Either (own_in outside_counts s c) (own_in either_counts s c)) 12 _ refl
    (cond_in (not (touched s.marks c (fits_amount more d s.held))) _ 0 (cond_in more 8 9 refl refl) refl))))

number_in : (s : Sheet) (k : Call) → in_table (number_on most_marks s k) ≡ true
number_in s (Change to c) = change_in most_marks to s c
number_in s (Receive c d) = amount_in most_marks true s c d
number_in s (Withdraw c d) = amount_in most_marks false s c d

did_left : (s : Sheet) (k : Call) → ((did_of most_marks s k).number ≡ 0 → ⊥) → (did_of most_marks s k).sheet ≡ s
did_left s k n = ap (λ (t : Bool). cond t (moved_sheet (move_of s k) s) s) (ne_eqb (number_on most_marks s k) 0 n)

did_refuses : (s : Sheet) (k : Call) → Refuses (of_number (did_of most_marks s k).number) (sheet s) (sheet (did_of most_marks s k).sheet)
did_refuses s k = record { of_table = number_in s k; leaves = λ n. ap sheet (did_left s k n); no_value = λ n i. refl; no_place = λ n. refl }

open_as : (P : Answer → Type 0) (m : ℕ) → P (record { number = 0; sheet = sheet_of entries (opened m) }) → P (record { number = 1; sheet = sheet_of entries (opened 1) })
    → P (open_of most_marks entries m)
open_as P m d r = if (marks_ok most_marks m) (λ e. subst P (open_done most_marks entries m e) d) (λ e. subst P (open_refused most_marks entries m e) r)

open_under_as : (P : Answer → Type 0) (m : ℕ) (groups : List ℕ) → P (record { number = 0; sheet = sheet_of entries (opened_under m (profile_of groups)) })
    → P (record { number = 1; sheet = sheet_of entries (opened 1) }) → P (record { number = 13; sheet = sheet_of entries (opened 1) }) → P (open_under_of most_marks entries m groups)
open_under_as P m groups d r f =
    if (marks_ok most_marks m)
    (λ e. if (names_ok m groups)
    (λ ok. subst P (open_under_done most_marks entries m groups e ok) d)
    (λ no. subst P (open_under_faulty most_marks entries m groups e no) f))
    (λ e. subst P (open_under_refused most_marks entries m groups e) r)

-- reading off a sheet, writing it

size_refuses : {s : Sheet} {v : Value} {l : Lent} → ClassSize most_marks s v → Refuses (of_value v) l l
size_refuses (ClassSize.spoiled n) = left refl nought
size_refuses (ClassSize.told w) = done refl

total_refuses : {s : Sheet} {v : Value} {l : Lent} → Totalled most_marks s v → Refuses (of_value v) l l
total_refuses (Totalled.spoiled n) = left refl nought
total_refuses (Totalled.told w) = done refl

list_refuses : {s : Sheet} {area later : List ℕ} {v : Value} → Listed most_marks s area v later → Refuses (of_value v) (bytes area) (bytes later)
list_refuses (Listed.spoiled n) = left refl nought
list_refuses (Listed.short w l) = left refl nought
list_refuses (Listed.given w l x) = done refl

write_refuses : {s : Sheet} {out later : List ℕ} {v : Value} → Writes most_marks s out v later → Refuses (of_value v) (bytes out) (bytes later)
write_refuses (Writes.spoiled n) = left refl nought
write_refuses (Writes.short w l) = left refl nought
write_refuses (Writes.written w l) = done refl

write_pla_refuses : {s : Sheet} {out later : List ℕ} {v : Value} → WritesPla most_marks s out v later → Refuses (of_value v) (bytes out) (bytes later)
write_pla_refuses (WritesPla.spoiled n) = left refl nought
write_pla_refuses (WritesPla.short w f l) = left refl nought
write_pla_refuses (WritesPla.written w f l) = done refl

-- reading

-- whichever way of reading: a refusal is 1 without a place, or 10
read_by_refuses : {R : Outcome → Type 0} {a : Read} {l : Lent} → ((k p : ℕ) → R (refused k p) → ((k ≡ 1) × (p ≡ 0)) ⊎ (k ≡ 10)) → ReadBy R entries a
    → Refuses (of_read a) l l
read_by_refuses {R} {l = l} fair x = subst (λ (y : Read). Refuses (of_read y) l l) (sym x.is) (by x.outcome x.run)
  where
    by : (o : Outcome) → R o → Refuses (of_read (read_of entries o)) l l
    by (good r) y = done refl
    by (refused k p) y =
        ⊎_elim
        (λ (w : (k ≡ 1) × (p ≡ 0)). subst (λ (q : ℕ). Refuses (record { answer = k; place = q; values = [] }) l l) (sym w.1) (left (ap in_table w.0) (λ i. refl)))
        (λ (w : k ≡ 10). subst (λ (x : ℕ). Refuses (record { answer = x; place = p; values = [] }) l l) (sym w) (placed (λ i. refl)))
        (fair k p y)

read_refuses : {rest : Rest} {t : List ℕ} {l : Lent} (a : Read) → ReadBy (Run most_marks (due (marks rest)) 0 t) entries a → Refuses (of_read a) l l
read_refuses a x = read_by_refuses (λ k p. refusals) x

read_pla_refuses : {t : List ℕ} {l : Lent} (a : Read) → ReadsPla most_marks entries t a → Refuses (of_read a) l l
read_pla_refuses a x = read_by_refuses (λ k p. pla-refusals) x

time_refuses : (x : Time) {l : Lent} → Refuses (of_reading (reading_of x)) l l
time_refuses (Read_value v f) = done refl
time_refuses (Fault p) = placed noughts

answer_refuses : {t : List ℕ} {r : Reading} {l : Lent} → Answered t r → Refuses (of_reading r) l l
answer_refuses {l = l} a = subst (λ (x : Reading). Refuses (of_reading x) l l) (sym a.is) (time_refuses a.time)

-- the entries for C

-- a reading's refusal as a reply, whose values are 0
no_sheet : {n p : ℕ} (v : List ℕ) {l : Lent} → ((i : ℕ) → get_or v i 0 ≡ 0) → Refuses (record { answer = n; place = p; values = [] }) l l
    → Refuses (record { answer = n; place = p; values = v }) l l
no_sheet v z x = record { of_table = x.of_table; leaves = x.leaves; no_value = λ n. z; no_place = x.no_place }

unread_refuses : {R : Read → Type 0} {l : Lent} → ((a : Read) → R a → Refuses (of_read a) l l) → {r : Reply} → HoldsNoneBy R no_reply r → Refuses (of_reply r) l l
unread_refuses {l = l} refuses h = subst (λ (x : Reply). Refuses (of_reply x) l l) (sym h.reply) (no_sheet (0 ∷ []) nought (refuses h.read h.reads))

put_refuses : (a : Answer) {out later : List ℕ} {r : Reply} → in_table a.number ≡ true → Put a out r later → Refuses (of_reply r) (bytes out) (bytes later)
put_refuses a h (Put.refused n) = left h nought
put_refuses a h (Put.written z w) = write_refuses w

change_refuses : {R : Read → Type 0} (call : Sheet → Answer) → ((s : Sheet) → in_table (call s).number ≡ true) → {out later : List ℕ} {r : Reply}
    → ((a : Read) → R a → Refuses (of_read a) (bytes out) (bytes out)) → ChangesBy R call out r later → Refuses (of_reply r) (bytes out) (bytes later)
change_refuses call h refuses (ChangesBy.unread u) = unread_refuses refuses u
change_refuses call h refuses (ChangesBy.called {s = s} k p) = put_refuses (call s) (h s) p

tell_refuses : (call : Sheet → Value → Type 0) → ((s : Sheet) (v : Value) → call s v → Refuses (of_value v) nothing nothing) → {t : List ℕ} {r : Reply}
    → Tells call t r → Refuses (of_reply r) nothing nothing
tell_refuses call h (TellsAs.unread u) = unread_refuses read_refuses u
tell_refuses call h (TellsAs.told k w) = h _ _ w

lend_refuses : (call : Sheet → List ℕ → Value → List ℕ → Type 0) {t area later : List ℕ} {r : Reply}
    → ((s : Sheet) (v : Value) → call s area v later → Refuses (of_value v) (bytes area) (bytes later)) → Lends call t area r later
    → Refuses (of_reply r) (bytes area) (bytes later)
lend_refuses call h (Lends.unread u) = unread_refuses read_refuses u
lend_refuses call h (Lends.lent k w) = h _ _ w

finding_refuses : (x : Finding) → Refuses (of_verdict (verdict_of x)) nothing nothing
finding_refuses Spoiled = left refl noughts
finding_refuses Fitting = done refl
finding_refuses (Faulty f i) = done refl

judge_refuses : {t l : List ℕ} {r : Verdict} → Judges t l r → Refuses (of_verdict r) nothing nothing
judge_refuses (TellsAs.unread u) =
    subst (λ (x : Verdict). Refuses (of_verdict x) nothing nothing) (sym u.reply) (no_sheet (0 ∷ 0 ∷ []) noughts (read_refuses u.read u.reads))
judge_refuses (TellsAs.told {a = x} k w) = finding_refuses x

kept_refuses : (k : Table) (b : ℕ) (s : Sheet) (v : Value) → KeptAt k b s v → Refuses (of_value v) nothing nothing
kept_refuses k b s v e = subst (λ (x : Value). Refuses (of_value x) nothing nothing) (sym e) (done refl)

compared_refuses : {first second : List ℕ} {r : Reply} → Compared first second r → Refuses (of_reply r) nothing nothing
compared_refuses (Compared.keeps n) = done refl
compared_refuses (Compared.changes b) = done refl

one_mark : (o : Outcome) → ((read_of entries o).number ≡ 0 → ⊥) → (read_of entries o).sheet ≡ sheet_of entries (opened 1)
one_mark (good r) n = absurd (n refl)
one_mark (refused k p) n = refl

of_refusal : {R : Outcome → Type 0} {a : Read} → ReadBy R entries a → (a.number ≡ 0 → ⊥) → a.sheet ≡ sheet_of entries (opened 1)
of_refusal x n = ap (λ (y : Read). y.sheet) x.is ∙ one_mark x.outcome (λ e. n (ap (λ (y : Read). y.number) x.is ∙ e))

-- EVERY CALL
every : {r : Told} {before after : Lent} → Made r before after → Refuses r before after
every (Made.opens m) = open_as (λ (a : Answer). Refuses (of_number a.number) nothing nothing) m (done refl) (left refl (λ i. refl))
every (Made.opens_under m groups) =
    open_under_as (λ (a : Answer). Refuses (of_number a.number) nothing nothing) m groups (done refl) (left refl (λ i. refl)) (left refl (λ i. refl))
every (Made.did s k) = did_refuses s k
every (Made.class_size w) = size_refuses w
every (Made.list w) = list_refuses w
every (Made.check {x = x} w) = finding_refuses x
every (Made.total w) = total_refuses w
every (Made.read {a = a} x) = read_refuses a x
every (Made.read_first {a = a} x) = read_refuses a x
every (Made.write w) = write_refuses w
every (Made.read_pla {a = a} x) = read_pla_refuses a x
every (Made.write_pla w) = write_pla_refuses w
every (Made.read_time {x = x} r) = time_refuses x
every (Made.answer_time a) = answer_refuses a
every (Made.vault_open m p) = put_refuses (open_of most_marks entries m) (open_as (λ (a : Answer). in_table a.number ≡ true) m refl refl) p
every (Made.vault_open_profile m groups p) =
    put_refuses (open_under_of most_marks entries m groups) (open_under_as (λ (a : Answer). in_table a.number ≡ true) m groups refl refl refl) p
every (Made.vault_change k c) = change_refuses (λ s. did_of most_marks s k) (λ s. number_in s k) read_refuses c
every (Made.vault_copy c) = change_refuses same (λ s. refl) read_refuses c
every (Made.vault_from_form1 c) = change_refuses same (λ s. refl) read_refuses c
every (Made.vault_read_pla c) = change_refuses same (λ s. refl) read_pla_refuses c
every (Made.vault_write_pla w) = lend_refuses (WritesPla most_marks) (λ s v. write_pla_refuses) w
every (Made.vault_list w) = lend_refuses (Listed most_marks) (λ s v. list_refuses) w
every (Made.vault_check_list w) = judge_refuses w
every (Made.vault_class_size w) = tell_refuses (ClassSize most_marks) (λ s v. size_refuses) w
every (Made.vault_total w) = tell_refuses (Totalled most_marks) (λ s v. total_refuses) w
every (Made.vault_kept k b w) = tell_refuses (KeptAt k b) (kept_refuses k b) w
every (Made.vault_before w) = compared_refuses w
every (Made.vault_read_time a) = answer_refuses a

pub demand_1 : Demand1
demand_1 = record {
  every_call = every;
  no_six = λ m e. clash (every m).of_table (ap in_table e);
  opening = λ m. open_as (λ (a : Answer). (a.number ≡ 0 → ⊥) → a.sheet ≡ sheet_of entries (opened 1)) m (λ n. absurd (n refl)) (λ n. refl);
  opening_under = λ m groups. open_under_as (λ (a : Answer). (a.number ≡ 0 → ⊥) → a.sheet ≡ sheet_of entries (opened 1)) m groups (λ n. absurd (n refl)) (λ n. refl) (λ n. refl);
  reading = λ layout. of_refusal;
  reading_pla = of_refusal;
}
