-- What is read off a sheet worked out afresh is the record's: each kept number, list, total and class size; and 7 never comes.
use Prim.Native.Nat.{ℕ, ◌^◌, ◌<◌, ◌≤◌}
use mathlib.Core.Path.{◌≡◌, refl, sym, ◌∙◌, ap, ap₂, subst, fun_ext}
use mathlib.Core.Bool.{true, not}
use mathlib.Core.List.{List}
use native.Mathlib.Omega.{arith}
use lib.ListN.{length}
use borrow.Author.Tests.{lt-ltb, le-ltb}
use Rattle.boxes.specs.Boxes.{sum_in}
use Rattle.boxes.specs.Sums.{only}
use Rattle.boxes.proofs.Boxes.{sum_in_nothing}
use Rattle.ground.proofs.Cases.{if, clash, below_or}
use Rattle.boxes.proofs.Sums.{sum_ext}
use Rattle.lists.specs.Lists.{most_lines}
use Rattle.tables.specs.Tables.{entry}
use Rattle.tables.proofs.Entries.{afresh-entry, afresh_own}
use Rattle.classes.specs.Standings.{is_in, is_out}
use Rattle.classes.specs.declared.Standing.{Standing}
use Rattle.classes.specs.declared.Standing.TheVariants.{In, Out, Either}
use Rattle.sheet.specs.Limits.{most_marks, entries}
use Rattle.sheet.specs.Record.{Record, in_class, Table, outside_counts, either_counts, held_seconds, kept, quantity, sheet_of}
use Rattle.sheet.specs.Sound.{ClassReady, Ready, record_of, size_of}
use Rattle.sheet.specs.Answers.{ClassSize}
use Rattle.sheet.specs.Told.{Value}
use Rattle.sheet.proofs.Kept.{class_sound, standing_told, times_sound}
use Rattle.sheet.proofs.Ready.{class_of_ready}
use Rattle.sheet.proofs.Limits.{boxes_fit}
use Rattle.listing.specs.Listing.{Laid, Listed}
use Rattle.totals.specs.Totals.{total_of, Totalled}
use Rattle.listing.proofs.Laid.{list_laid}
use Rattle.histories.specs.Histories.{Good, Given}

is_out-true : (s : Standing) → is_out s ≡ true → s ≡ Out
is_out-true In e = clash e refl
is_out-true Out e = refl
is_out-true Either e = clash e refl

module _ (r : Record) (good : Good r) where
  room : 3 ^ r.marks ≤ entries
  room = boxes_fit r.marks good.marks

  -- each kept number below 3^m is the sum over the box, worked out from the record; above it is 0

  pub kept_afresh : (t : Table) (b : ℕ) → b < entries → entry (kept t (sheet_of entries r)) b ≡ sum_in r.marks b (quantity t r)
  kept_afresh outside_counts b l = afresh-entry entries r.marks (quantity outside_counts r) b l
  kept_afresh either_counts b l = afresh-entry entries r.marks (quantity either_counts r) b l
  kept_afresh held_seconds b l = afresh-entry entries r.marks r.times b l

  pub above_zero : (t : Table) (b : ℕ) → 3 ^ r.marks ≤ b → b < entries → entry (kept t (sheet_of entries r)) b ≡ 0
  above_zero t b l lb = kept_afresh t b lb ∙ sum_in_nothing r.marks b (quantity t r) l

  -- the sheet is fit for every call, and tells the standings of the record

  pub ready_afresh : Ready most_marks (sheet_of entries r)
  ready_afresh = record {
    marks = good.marks;
    class = class_sound entries r room good.profile good.obeys;
    times = times_sound entries r.marks room r.standing r.times good.times good.apart;
  }

  class_ready : ClassReady most_marks (sheet_of entries r)
  class_ready = class_of_ready ready_afresh

  pub out_above : (c : ℕ) → 2 ^ r.marks ≤ c → r.standing c ≡ Out
  out_above c l = if (is_out (r.standing c)) (is_out-true (r.standing c)) (λ e. absurd (omega (arith, good.standing c e)))

  pub standing_afresh : (record_of (sheet_of entries r)).standing ≡ r.standing
  standing_afresh = fun_ext (λ c. below_or c (2 ^ r.marks)
      (λ l. rw (lt-ltb c (2 ^ r.marks) l) (standing_told entries r.marks room r.standing c l))
      (λ l. rw (le-ltb c (2 ^ r.marks) l) (sym (out_above c l))))

  pub total_same : total_of (record_of (sheet_of entries r)) ≡ total_of r
  total_same = sum_ext (2 ^ r.marks) _ _
      (λ c l. ap₂ (λ (p : ℕ → Standing) (t : ℕ). only (is_in (p c)) t) standing_afresh (afresh_own entries r.marks r.times room c l))

  -- class size, total, and the list where it has room

  pub size_afresh : (v : Value) → ClassSize most_marks (sheet_of entries r) v → v ≡ record { number = 0; value = size_of r.marks (in_class r) }
  size_afresh v (ClassSize.spoiled no_ready) = absurd (no_ready class_ready)
  size_afresh v (ClassSize.told w) = ap (λ (p : ℕ → Standing). record { number = 0; value = size_of r.marks (λ c. is_in (p c)) }) standing_afresh

  pub total_afresh : (v : Value) → Totalled most_marks (sheet_of entries r) v → v ≡ record { number = 0; value = total_of r }
  total_afresh v (Totalled.spoiled no_ready) = absurd (no_ready ready_afresh)
  total_afresh v (Totalled.told w) = ap (λ (n : ℕ). record { number = 0; value = n }) total_same

  pub list_afresh : (area : List ℕ) (v : Value) (later : List ℕ) → most_lines r.marks ≤ length area → Listed most_marks (sheet_of entries r) area v later → Given r area v later
  list_afresh area v later l w =
      let x = list_laid w class_ready l in
      (x.0, subst (λ (p : ℕ → Standing). Laid r.marks (λ c. is_in (p c)) (λ c. not (is_out (p c))) area v.value later) standing_afresh x.1)
