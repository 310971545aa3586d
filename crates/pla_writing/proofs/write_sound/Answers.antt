-- The list is found in an area of its own; then 5 by the length of its text, or the text.
use Rattle.std.proofs.Common.{arith, rules, sym, ap, length}
use Rattle.std.proofs.lemmas.List.{length-take-le}
use Rattle.pla_writing.proofs.Answers.{few_marks, few_boxes, boxes_inside, text_size, text_short, text_written, no_refusal}
use Rattle.pla_writing.proofs.write_sound.Goals as goal

pub returns-in_err-lines : goal.returns-in_err-lines
returns-in_err-lines c = absurd (no_refusal _ c.requires c.area-area.ensures c.in_err-lines.ensures)

pub text_size-requires : goal.text_size-requires
text_size-requires c =
    let l = c.in_ok-lines.ensures in
    (few_marks c.requires c.area-area.ensures l, few_boxes c.requires c.area-area.ensures l)

pub returns-then-out-text_size : goal.returns-then-out-text_size
returns-then-out-text_size c = text_short c.requires c.area-area.ensures c.in_ok-lines.ensures c.text_size.ensures (omega arith)

pub slice_bounds-area-end : goal.slice_bounds-area-end
slice_bounds-area-end c = boxes_inside c.requires c.area-area.ensures c.in_ok-lines.ensures

pub slice_bounds-put_text-end : goal.slice_bounds-put_text-end
slice_bounds-put_text-end c = sym (length-take-le _ _ (boxes_inside c.requires c.area-area.ensures c.in_ok-lines.ensures))

pub put_text-requires : goal.put_text-requires
put_text-requires c = omega (arith, c.new-page.ensures.empty, ap length c.new-page.ensures.area, text_size c.requires c.area-area.ensures c.in_ok-lines.ensures c.text_size.ensures)

pub returns : goal.returns
returns c =
    text_written c.requires c.area-area.ensures c.in_ok-lines.ensures c.text_size.ensures (omega arith) c.new-page.ensures.empty c.new-page.ensures.area c.put_text.ensures
    (search (rules, c.put_text.ensures.same, c.new-page.ensures.same))
