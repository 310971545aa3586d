-- What the writer answers of the list that was found: 5 by its length, or the text that was put.
use Prim.Native.Nat.{ℕ, ◌≤◌, ◌<◌}
use mathlib.Core.Path.{◌≡◌, sym, ap, ◌∙◌, subst}
use mathlib.Core.List.{List, ◌++◌}
use native.Mathlib.Omega.{arith}
use lib.ListN.{length, take, drop}
use lib.Seq.{length-take-le}
use Rattle.ground.specs.Areas.{Wrote}
use Rattle.ground.proofs.Areas.{laid_front}
use Rattle.lists.specs.Lists.{FirstShortest, most_lines}
use Rattle.sheet.specs.Record.{in_class, not_out}
use Rattle.sheet.specs.Limits.{most_marks}
use Rattle.sheet.specs.Sound.{ClassReady, record_of}
use Rattle.sheet.specs.declared.Sheet.{Sheet}
use Rattle.std.specs.Prelude.{Err}
use Rattle.refusals.specs.declared.Refusal.{Refusal}
use Rattle.refusals.proofs.Settled.{never_done}
use Rattle.sheet.specs.Told.{Value, value_of}
use Rattle.sheet.proofs.Limits.{marks_most}
use Rattle.listing.specs.Listing.{Laid, Listed}
use Rattle.listing.proofs.Laid.{class_small, list_laid, lines_fit, laid_few, laid_inside, laid_is}
use Rattle.print.specs.Pages.{Puts}
use Rattle.print.specs.declared.page.Page.{Page}
use Rattle.print.proofs.Pages.{wrote_of}
use Rattle.pla.specs.Writing.{pla_text}
use Rattle.pla.specs.Answers.{WritesPla, short, written}
use Rattle.pla_writing.specs.Parts.{TextSize}

module _ {s : Sheet} {area later : List ℕ} {v : Value} (ready : ClassReady most_marks s) (long : most_lines most_marks ≡ length area) (listed : Listed most_marks s area v later) where
  pub few_marks : s.marks ≤ most_marks
  few_marks = marks_most most_marks s.marks ready.marks

  found : (v.number ≡ 0) × Laid s.marks (in_class (record_of s)) (not_out (record_of s)) area v.value later
  found = list_laid listed ready (omega (arith, lines_fit s.marks few_marks))

  list : Laid s.marks (in_class (record_of s)) (not_out (record_of s)) area v.value later
  list = found.1

  pub few_boxes : v.value ≤ most_lines most_marks
  few_boxes = omega (arith, laid_few list (class_small s), lines_fit s.marks few_marks)

  pub boxes_inside : v.value ≤ length later
  boxes_inside = laid_inside list

  -- the list, as it stands in front of the area
  abbrev boxes : List ℕ
  boxes = take v.value later

  right : FirstShortest s.marks (in_class (record_of s)) (not_out (record_of s)) boxes
  right = subst (FirstShortest s.marks (in_class (record_of s)) (not_out (record_of s))) (sym (laid_is list)) list.right

  module _ {n : ℕ} (size : TextSize s.marks v.value n) where
    pub text_size : length (pla_text s.marks boxes) ≡ n
    text_size = size boxes (length-take-le v.value later boxes_inside)

    pub text_short : {out : List ℕ} → length out < n → WritesPla most_marks s out (record { number = 5; value = 0 }) out
    text_short h = short ready right (omega (arith, text_size))

    -- the text is put on a page, of which the area is given back
    pub text_written : {out o : List ℕ} {a b : Page} → n ≤ length out → a.len ≡ 0 → a.area.now ≡ out → Puts a b (pla_text s.marks boxes) → o ≡ b.area.now
        → WritesPla most_marks s out (record { number = 0; value = b.len }) o
    text_written {out} {o} {a} {b} h empty area put given =
        let r = b.len in
        let t = pla_text s.marks boxes in
        let w : Wrote out 0 t r o = rw given (rw (empty, area) at (wrote_of put (omega (arith, empty, ap length area, text_size)))) in
        let e : length t ≡ r = omega (arith, w.place) in
        let q : t ++ drop (length t) out ≡ o = sym (w.area ∙ laid_front out t) in
        subst (λ (k : ℕ). WritesPla most_marks s out (record { number = 0; value = k }) o) e
        (subst (WritesPla most_marks s out (record { number = 0; value = length t })) q (written ready right (omega (arith, text_size))))

-- the area is long enough for every list
pub no_refusal : {s : Sheet} {area later : List ℕ} (e : Refusal) → ClassReady most_marks s → most_lines most_marks ≡ length area
    → Listed most_marks s area (value_of (Err e)) later → ⊥
no_refusal e ready long listed = never_done e (found ready long listed).0
