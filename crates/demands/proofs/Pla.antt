-- A good text draws a record, and the sheet read is the one worked out from it; what the writer gives is the text of the one first shortest list.
use Prim.Native.Nat.{ℕ, ◌-◌, ◌/◌, ◌%◌, ◌^◌, ◌≤◌, ◌<◌}
use mathlib.Core.Path.{◌≡◌, refl, sym, ◌∙◌, ap, subst}
use mathlib.Core.Bool.{true, false, not, ◌&&◌, ◌||◌}
use mathlib.Core.List.{List, []}
use mathlib.Core.Logic.{◌⊎◌, ⊎_elim}
use native.Mathlib.Omega.{arith}
use lib.Dec.{eqb}
use borrow.Author.Tests.{le-ltb, not-true}
use lib.ListN.{length, get_or, drop}
use lib.Seq.{take_at}
use Rattle.ground.specs.Decides.{Decides}
use Rattle.ground.proofs.Cases.{if, clash, below_or}
use Rattle.boxes.specs.Boxes.{contains, sum_in}
use Rattle.boxes.specs.Sums.{only}
use Rattle.boxes.proofs.Sums.{sum_ext, sum-zero, only_zero}
use Rattle.print.specs.Texts.{sign}
use Rattle.print.proofs.Patterns.{pattern_mark}
use Rattle.lists.specs.Lists.{covered, Fits}
use Rattle.classes.specs.Standings.{is_in, is_out, is_either}
use Rattle.classes.specs.declared.Standing.{Standing}
use Rattle.classes.specs.declared.Standing.TheVariants.{In, Out, Either}
use Rattle.sheet.specs.Limits.{most_marks, entries, marks_ok}
use Rattle.sheet.specs.Record.{Record, in_class, not_out, held_seconds, sheet_of}
use Rattle.sheet.specs.Sound.{record_of}
use Rattle.sheet.specs.declared.Sheet.{Sheet}
use Rattle.sheet.specs.Told.{Value}
use Rattle.sheet.proofs.Told.{in-not-out, not_out_low}
use Rattle.listing.proofs.Laid.{class_small}
use Rattle.stored.specs.Fields.{Outcome, good, refused}
use Rattle.stored.specs.Answers.{read_of, Writes}
use Rattle.stored.specs.Told.{Read}
use Rattle.stored.proofs.Trips.{told_agrees}
use Rattle.histories.proofs.Travels.{five}
use Rattle.pla.specs.Sayings.{cube, Says}
use Rattle.pla.specs.Reading.{class_alone, PlaSays}
use Rattle.pla.specs.Writing.{pla_text}
use Rattle.pla.specs.Answers.{ReadsPla, WritesPla}
use Rattle.pla.proofs.Runs.{refusals, says_one_outcome}
use Rattle.pla.proofs.Drawings.{in-alone, drawn_marks, drawn_times, drawn_class, drawn_plain, drawn_combination}
use Rattle.pla.proofs.Settled.{reads_pla_some, reads_pla_settled}
use Rattle.pla.proofs.Back.{pla_back}
use Rattle.lent.specs.Entries.{Put, ChangesBy, Lends, same}
use Rattle.lent.specs.declared.Reply.{Reply}
use Rattle.demands.specs.Calls.{bytes, of_reply, Made}
use Rattle.demands.specs.Demand1.{Refuses}
use Rattle.demands.specs.Demand2.{Lines}
use Rattle.demands.specs.Pla.{DrawnFrom, GivesBack, WrittenAs, DrawnIn, WrittenIn, Pla}
use Rattle.demands.proofs.Demand1.{demand_1}
use Rattle.demands.proofs.Demand2.{class_lines}
use Rattle.demands.proofs.Sevens.{SevenIf, as_listed}
use Rattle.demands.proofs.Demand3.{kept_afresh, good_drawn, pla_drawn}

-- what is read

outcome_numbers : {t : List ℕ} (o : Outcome) → PlaSays most_marks t o → ((read_of entries o).number ≡ 0 → ⊥)
    → (((read_of entries o).number ≡ 1) × ((read_of entries o).place ≡ 0)) ⊎ ((read_of entries o).number ≡ 10)
outcome_numbers (good r) y n = absurd (n refl)
outcome_numbers (refused k p) y n = refusals y

numbers : {t : List ℕ} {a : Read} → ReadsPla most_marks entries t a → (a.number ≡ 0 → ⊥) → ((a.number ≡ 1) × (a.place ≡ 0)) ⊎ (a.number ≡ 10)
numbers x n =
    subst (λ (y : Read). ((y.number ≡ 1) × (y.place ≡ 0)) ⊎ (y.number ≡ 10)) (sym x.is)
    (outcome_numbers x.outcome x.run (λ e. n (ap (λ (y : Read). y.number) x.is ∙ e)))

leftmost : {m b : ℕ} {ws : List (List ℕ)} → Says m ws (cube b) → (i : ℕ) → i < m → get_or (get_or ws 0 []) (m - 1 - i) 0 ≡ sign (b / 3 ^ i % 3)
leftmost {m} {b} (Says.drawn l e) i h = ap (λ (x : List (List ℕ)). get_or (get_or x 0 []) (m - 1 - i) 0) e ∙ pattern_mark m b i h

-- a box of combinations that hold nothing holds nothing
none_held : (m b : ℕ) (f : ℕ → ℕ) → ((c : ℕ) → f c ≡ 0) → sum_in m b f ≡ 0
unfolding sum_in
none_held m b f h = sum_ext (2 ^ m) _ (λ c. 0) (λ c l. ap (only (contains m b c)) (h c) ∙ only_zero (contains m b c)) ∙ sum-zero (2 ^ m)

-- a sheet worked out afresh tells the standings of its record below 2^m, and above everything is out
told_by_all : (P : Standing → Type 0) (r : Record) → marks_ok most_marks r.marks ≡ true → (c : ℕ) → (c < 2 ^ r.marks → P (r.standing c)) → (2 ^ r.marks ≤ c → P Out)
    → P ((record_of (sheet_of entries r)).standing c)
told_by_all P r ok c low high =
    below_or c (2 ^ r.marks)
    (λ l. subst P (sym ((told_agrees most_marks entries five r ok).standing c l)) (low l))
    (λ l. rw (le-ltb c (2 ^ r.marks) l) (high l))

module _ {t : List ℕ} where
  drawn : (r : Record) → PlaSays most_marks t (good r) → DrawnFrom t (sheet_of entries r)
  drawn r p =
      let s = sheet_of entries r in
      let ok = drawn_marks p in
      let told = told_agrees most_marks entries five r ok in
      record {
        marks = ok;
        class = λ c. record {
          yes = λ e. (drawn_class p c).yes (sym (ap is_in (told.standing c (class_small s c e))) ∙ e);
          sure = λ d.
              let e = (drawn_class p c).sure d in
              ap is_in (told.standing c (drawn_combination p c (not-true (is_out (r.standing c)) (in-not-out r c e)))) ∙ e;
        };
        others = λ c. told_by_all (λ (x : Standing). is_either x ≡ false) r ok c (λ l. drawn_plain p c) (λ l. refl);
        nothing_held = λ b. kept_afresh r (good_drawn p) held_seconds b ∙ none_held r.marks b r.times (drawn_times p);
        sheet = λ q. ap (λ (o : Outcome). (read_of entries o).sheet) (says_one_outcome p q);
      }

  by_outcome : (o : Outcome) → PlaSays most_marks t o → (read_of entries o).number ≡ 0 → DrawnFrom t (read_of entries o).sheet
  by_outcome (good r) y z = drawn r y
  by_outcome (refused k p) y z = absurd (⊎_elim (λ (w : (k ≡ 1) × (p ≡ 0)). omega (arith, w.0, z)) (λ (w : k ≡ 10). omega (arith, w, z)) (refusals y))

  read : {a : Read} → ReadsPla most_marks entries t a → a.number ≡ 0 → DrawnFrom t a.sheet
  read x z =
      subst (λ (y : Read). DrawnFrom t y.sheet) (sym x.is)
      (by_outcome x.outcome x.run (sym (ap (λ (y : Read). y.number) x.is) ∙ z))

  put_drawn : {s : Sheet} {out later : List ℕ} {r : Reply} → DrawnFrom t s → Put (same s) out r later → r.answer ≡ 0 → DrawnIn t out r later
  put_drawn d (Put.refused n) z = absurd (n refl)
  put_drawn d (Put.written y (Writes.spoiled n)) z = absurd (omega arith)
  put_drawn d (Put.written y (Writes.short w l)) z = absurd (omega arith)
  put_drawn {s} d (Put.written y (Writes.written w l)) z = record { sheet = s; drawn = d; size = refl; stands = refl }

  entry_read : {out later : List ℕ} {r : Reply} → ChangesBy (ReadsPla most_marks entries t) same out r later → r.answer ≡ 0 → DrawnIn t out r later
  entry_read (ChangesBy.unread u) z = absurd (u.bad (sym (ap (λ (x : Reply). x.answer) u.reply) ∙ z))
  entry_read (ChangesBy.called h p) z = put_drawn (subst (DrawnFrom t) h.sheet (read h.reads h.good)) p z

left : {out later : List ℕ} {r : Reply} → Refuses (of_reply r) (bytes out) (bytes later) → (r.answer ≡ 0 → ⊥) → later ≡ out
left x n = let e = x.leaves n in cc

-- what is read back: the record of what the lines cover, with no times

-- lines cover what is in, nothing that is out, and of what is either what they cover
covered_standing : (r : Record) {l : List ℕ} → Fits r.marks (in_class r) (not_out r) l → (c : ℕ)
    → covered r.marks l c ≡ (in_class r c || (is_either (r.standing c) && covered r.marks l c))
covered_standing r {l} f c = by (r.standing c) (f.covers c) (f.inside c)
  where
    by : (s : Standing) → (is_in s ≡ true → covered r.marks l c ≡ true) → (covered r.marks l c ≡ true → not (is_out s) ≡ true)
        → covered r.marks l c ≡ (is_in s || (is_either s && covered r.marks l c))
    by In in-it out_of_lem = in-it refl
    by Out in-it out_of_lem = if (covered r.marks l c) (λ e. clash (out_of_lem e) refl) (λ e. e)
    by Either in-it out_of_lem = refl

module _ (s : Sheet) (l : List ℕ) (f : Fits s.marks (in_class (record_of s)) (not_out (record_of s)) l) where
  abbrev again : Record
  again = class_alone s.marks (covered s.marks l)

  -- no line has a number that is no combination
  low_covered : (c : ℕ) → 2 ^ s.marks ≤ c → covered s.marks l c ≡ false
  low_covered c h = if (covered s.marks l c) (λ e. absurd (omega (arith, not_out_low s c (f.inside c e), h))) (λ e. e)

  gives_back : {t : List ℕ} {a : Read} → marks_ok most_marks s.marks ≡ true → PlaSays most_marks t (good again) → ReadsPla most_marks entries t a → GivesBack s l a
  gives_back {a = a} ok p x =
      let d = drawn again p in
      subst (GivesBack s l) (sym (pla_drawn p a x))
      (record {
        done = refl;
        marks = refl;
        class = λ c. told_by_all (λ (y : Standing). is_in y ≡ covered s.marks l c) again ok c (λ h. in-alone (covered s.marks l c)) (λ h. sym (low_covered c h))
            ∙ covered_standing (record_of s) f c;
        others = d.others;
        nothing_held = d.nothing_held;
      })

-- what is written

written : {s : Sheet} {out later : List ℕ} {v : Value} → WritesPla most_marks s out v later → v.number ≡ 0 → WrittenAs s out v later
written (WritesPla.spoiled n) z = absurd (omega arith)
written (WritesPla.short w f l) z = absurd (omega arith)
written {s} {out} (WritesPla.written {l} w f h) z =
    let t = pla_text s.marks l in
    let front = take_at t (drop (length t) out) (length t) refl in
    let says = pla_back most_marks s.marks w.marks l f.fits.boxes in
    record {
      lines = l;
      of_class = class_lines s f;
      size = refl;
      stands = refl;
      back = λ x. gives_back s l f.fits w.marks (subst (λ (y : List ℕ). PlaSays most_marks y (good (again s l f.fits))) (sym front) says) x;
    }

entry_written : {t out later : List ℕ} {r : Reply} → Lends (WritesPla most_marks) t out r later → r.answer ≡ 0 → WrittenIn t out r later
entry_written (Lends.unread u) z = absurd (u.bad (sym (ap (λ (x : Reply). x.answer) u.reply) ∙ z))
entry_written (Lends.lent {s = s} h w) z = record { sheet = s; held_in = h; written = written w z }

written_seven : {s : Sheet} {out later : List ℕ} {v : Value} → WritesPla most_marks s out v later → SevenIf s v.number
written_seven (WritesPla.spoiled n) = (λ e. n, λ k. refl)
written_seven (WritesPla.short w f l) = (λ e. absurd (omega arith), λ k. absurd (k w))
written_seven (WritesPla.written w f l) = (λ e. absurd (omega arith), λ k. absurd (k w))

five_exactly : {s : Sheet} {out later l : List ℕ} {v : Value} → WritesPla most_marks s out v later → (v.number ≡ 7 → ⊥) → Lines (record_of s) l
    → Decides (eqb v.number 5) (length out < length (pla_text s.marks l))
five_exactly (WritesPla.spoiled n) k q = absurd (k refl)
five_exactly {s} {out} (WritesPla.short w f h) k q =
    record { yes = λ e. subst (λ (x : List ℕ). length out < length (pla_text s.marks x)) (q.one _ f) h; sure = λ e. refl }
five_exactly {s} (WritesPla.written w f h) k q =
    record { yes = λ e. clash e refl; sure = λ l. absurd (omega (arith, h, l, ap (λ (x : List ℕ). length (pla_text s.marks x)) (q.one _ f))) }

pub pla : Pla
pla = record {
  some = reads_pla_some most_marks entries;
  one = reads_pla_settled;
  numbers = numbers;
  leftmost = leftmost;
  read = read;
  entry_read = entry_read;
  refused = λ c. left (demand_1.every_call (Made.vault_read_pla c));
  written = written;
  entry_written = entry_written;
  seven = λ x. as_listed (written_seven x);
  five = five_exactly;
}
