-- The result of a sheet worked out afresh from a record: what its calls tell is the record's, so that 5 and 7 do not come, and what is laid
-- piece by piece is the result.
use mathlib.Core.Bool.{Bool}
use Prim.Native.Nat.{ℕ, zero, suc, ◌+◌, ◌*◌, ◌^◌, ◌≤◌, ◌<◌}
use mathlib.Core.Path.{◌≡◌, sym, ap, ap₂, ◌∙◌, subst}
use mathlib.Core.List.{List, ◌++◌}
use native.Mathlib.Omega.{arith}
use lib.ListN.{length, get_or, take}
use lib.Seq.{length-take-le}
use Rattle.boxes.specs.Boxes.{sum_in}
use Rattle.boxes.specs.Sums.{sum, only}
use Rattle.ground.proofs.Cases.{if}
use Rattle.boxes.proofs.Sums.{sum-le}
use Rattle.lists.specs.Lists.{most_lines}
use Rattle.tables.specs.Tables.{entry}
use Rattle.sheet.specs.Limits.{most_marks, entries}
use Rattle.sheet.specs.Record.{Record, in_class, held_seconds, sheet_of}
use Rattle.sheet.specs.Sound.{size_of}
use Rattle.sheet.specs.Answers.{ClassSize}
use Rattle.sheet.specs.declared.Sheet.{Sheet}
use Rattle.sheet.specs.Told.{Value, value_of}
use Rattle.std.specs.Prelude.{Result as Told, Ok, Err}
use Rattle.std.specs.Result.{result_unwrap_or}
use Rattle.refusals.specs.Numbers.{number_of as number_in}
use Rattle.refusals.specs.declared.Refusal.{Refusal}
use Rattle.sheet.proofs.Opening.{combinations_fit}
use Rattle.sheet.proofs.Limits.{boxes_fit, marks_most}
use Rattle.listing.specs.Listing.{Listed}
use Rattle.totals.specs.Totals.{taken, total_of, Totalled}
use Rattle.listing.proofs.Laid.{lines_fit, laid_few, laid_inside, laid_is}
use Rattle.histories.specs.Histories.{Good, Given}
use Rattle.histories.proofs.Afresh.{kept_afresh, size_afresh, total_afresh, list_afresh}
use Rattle.histories.proofs.Goods.{good_small}
use Rattle.print.specs.Pages.{Puts}
use Rattle.print.specs.declared.page.Page.{Page}
use Rattle.print.proofs.Pages.{puts_then, wrote_on}
use Rattle.desk.specs.Prints.{heads, box_lines, last_line, page, Result}
use Rattle.desk.specs.Parts.{OfRecord, Printed, HaveEntries, line_room, result_room}
use Rattle.desk.proofs.Texts.{heads-length, last_length, lines_same, boxes_below}

-- a value, or 0 for a refusal
pub valued : (a : Told ℕ Refusal) {n : ℕ} → n ≡ result_unwrap_or a 0 → value_of a ≡ record { number = (value_of a).number; value = n }
valued (Ok x) e = ap (λ (n : ℕ). record { number = 0; value = n }) (sym e)
valued (Err r) e = ap (λ (n : ℕ). record { number = number_in r; value = n }) (sym e)

ones_le : (n : ℕ) (class : ℕ → Bool) → sum n (λ c. only (class c) 1) ≤ n
unfolding sum
ones_le zero class = omega arith
ones_le (suc n) class = if (class n) (λ e. rw e (omega (arith, ones_le n class))) (λ e. rw e (omega (arith, ones_le n class)))

taken-le : (class : ℕ → Bool) (times : ℕ → ℕ) (c : ℕ) → taken class times c ≤ times c
taken-le class times c = if (class c) (λ e. rw e (omega arith)) (λ e. rw e (omega arith))

module _ {r : Record} (good : Good r) where
  marks_small : r.marks ≤ most_marks
  marks_small = marks_most most_marks r.marks good.marks

  -- the list in an area of its own: its length, and the numbers that stand in front
  module _ {area later : List ℕ} {v : Value} (g : Given r area v later) where
    count_small : v.value ≤ most_lines most_marks
    count_small = omega (arith, laid_few g.1 (good_small good), lines_fit r.marks marks_small)

    front_long : length (take v.value later) ≡ v.value
    front_long = length-take-le v.value later (laid_inside g.1)

    pub front_inside : (held : List ℕ) → length held ≡ entries → HaveEntries (take v.value later) held
    front_inside held long k h =
        let below = boxes_below r.marks g.1.list g.1.right.fits.boxes k (omega (arith, ap length (laid_is g.1))) in
        subst (λ (l : List ℕ). get_or l k 0 < length held) (sym (laid_is g.1)) (omega (arith, below, boxes_fit r.marks good.marks))

module _ {r : Record} {sheet : Sheet} (of : OfRecord sheet r) where
  pub sheet_marks : sheet.marks ≤ most_marks
  sheet_marks = omega (arith, marks_small of.good, ap (λ (s : Sheet). s.marks) of.is)

  pub given : {area later : List ℕ} {v : Value} → most_lines most_marks ≡ length area → Listed most_marks sheet area v later → Given r area v later
  given {area} {later} {v} long l =
      list_afresh r of.good area v later (omega (arith, lines_fit r.marks (marks_small of.good)))
      (subst (λ (s : Sheet). Listed most_marks s area v later) of.is l)

  size_told : {v : Value} → ClassSize most_marks sheet v → v ≡ record { number = 0; value = size_of r.marks (in_class r) }
  size_told {v} w = size_afresh r of.good v (subst (λ (s : Sheet). ClassSize most_marks s v) of.is w)

  total_told : {v : Value} → Totalled most_marks sheet v → v ≡ record { number = 0; value = total_of r }
  total_told {v} w = total_afresh r of.good v (subst (λ (s : Sheet). Totalled most_marks s v) of.is w)

  -- NEITHER 5 NOR 7 COMES when the result is printed
  pub never_refused : {area later : List ℕ} {size v total : Value} → most_lines most_marks ≡ length area → ClassSize most_marks sheet size → Listed most_marks sheet area v later
      → Totalled most_marks sheet total → (size.number ≡ 0) × (v.number ≡ 0) × (total.number ≡ 0)
  never_refused long sized listed totalled = (
    ap (λ (x : Value). x.number) (size_told sized),
    (given long listed).0,
    ap (λ (x : Value). x.number) (total_told totalled),
  )

  size_small : {v : Value} → ClassSize most_marks sheet v → v.value < 2 ^ 64
  size_small w =
      omega (arith, ap (λ (x : Value). x.value) (size_told w), ones_le (2 ^ r.marks) (in_class r), combinations_fit r.marks (marks_small of.good))

  total_small : {v : Value} → Totalled most_marks sheet v → v.value < 2 ^ 64
  total_small w =
      omega (
        arith,
        ap (λ (x : Value). x.value) (total_told w),
        of.good.times,
        sum-le (2 ^ r.marks) (taken (in_class r) r.times) r.times (λ c l. taken-le (in_class r) r.times c),
      )

  module _ {area later : List ℕ} {v size : Value} (g : Given r area v later) (sized : ClassSize most_marks sheet size) where
    heads_short : length (heads size.value v.value) ≤ 54
    heads_short = heads-length size.value v.value (size_small sized) (omega (arith, count_small of.good g))

    module _ (at : ℕ) {a space : ℕ} (behind_heads : a ≡ at + length (heads size.value v.value)) (room : at + result_room ≤ space) where
      -- room for the lines behind the heads
      pub lines_room : a + line_room * length (take v.value later) ≤ space
      lines_room = omega (arith, behind_heads, heads_short, front_long of.good g, count_small of.good g)

      -- and for the total behind the lines
      pub total_room : {b : ℕ} → b ≤ a + line_room * length (take v.value later) → b + line_room ≤ space
      total_room h = omega (arith, behind_heads, heads_short, front_long of.good g, count_small of.good g)

    -- the text of the result: its heads, its lines and its total
    module _ {total : Value} (totalled : Totalled most_marks sheet total) where
      abbrev pub text : List ℕ
      text = heads size.value v.value ++ box_lines sheet.marks (entry sheet.held) (take v.value later) ++ last_line total.value

      result_is : Result r text
      unfolding page
      result_is =
          let lines =
          ap (λ (s : Sheet). box_lines s.marks (entry s.held) (take v.value later)) of.is
          ∙ ap (box_lines r.marks (entry (sheet_of entries r).held)) (laid_is g.1)
          ∙ lines_same r.marks (entry (sheet_of entries r).held) (λ x. sum_in r.marks x r.times) g.1.list g.1.right.fits.boxes
          (λ b l. kept_afresh r of.good held_seconds b (omega (arith, boxes_fit r.marks of.good.marks))) in
          record {
            list = g.1.list;
            first = g.1.right;
            is =
                ap₂ (λ (x : ℕ) (y : ℕ). heads x y ++ box_lines sheet.marks (entry sheet.held) (take v.value later) ++ last_line total.value)
                (ap (λ (x : Value). x.value) (size_told sized)) g.1.size
                ∙ ap₂ (λ (x : List ℕ) (y : ℕ). heads (size_of r.marks (in_class r)) (length g.1.list) ++ x ++ last_line y) lines
                (ap (λ (x : Value). x.value) (total_told totalled));
          }

      -- heads, lines and total were laid on a page of the area, one behind the other
      pub printed : {p q s t : Page} {out now : List ℕ} {at : ℕ} → p.area.now ≡ out → p.len ≡ at → at + result_room ≤ length out → t.area.now ≡ now
          → Puts p q (heads size.value v.value)
          → Puts q s (box_lines sheet.marks (entry sheet.held) (take v.value later)) → s.len ≤ q.len + line_room * length (take v.value later)
          → Puts s t (last_line total.value) → Printed r out at t.len now
      printed {p} {q} {s} {t} e f room h x y short z =
          let whole = puts_then (puts_then x y) z in
          let last = last_length total.value (total_small totalled) in
          let small = count_small of.good g in
          let long = front_long of.good g in
          let size : t.len ≤ p.len + result_room = omega (arith, x.len, y.len, z.len, heads_short) in
          record {
            text = text;
            result = result_is;
            wrote = wrote_on whole e f (omega (arith, whole.len)) h;
            short = omega (arith, size);
          }
