-- What the calls tell is the record's (`printed`), and none of them is refused.
use Prim.Native.Nat.{◌+◌, ◌≤◌}
use mathlib.Core.Path.{◌≡◌, sym, ap, subst}
use native.Mathlib.Omega.{arith}
use lib.ListN.{length}
use lib.Seq.{length-take-le}
use borrow.Author.Rules.{rules}
use Rattle.sheet.specs.Limits.{most_marks, entries}
use Rattle.sheet.specs.Record.{Record}
use Rattle.sheet.specs.Answers.{ClassSize}
use Rattle.sheet.specs.Told.{Value, value_of}
use Rattle.listing.specs.Listing.{Listed}
use Rattle.listing.proofs.Laid.{laid_inside}
use Rattle.totals.specs.Totals.{Totalled}
use Rattle.histories.specs.Histories.{Given}
use Rattle.desk.specs.Parts.{OfRecord}
use Rattle.desk.proofs.Results.{valued, sheet_marks, given, front_inside, lines_room, total_room, printed}
use Rattle.desk.proofs.page.result.Goals as goal
use Rattle.desk.proofs.page.result.Goals.{After-unwrap_or-count}

module _ (c : After-unwrap_or-count) where
  abbrev size : Value
  size = record { number = (value_of c.class_size.result).number; value = c.unwrap_or-size.result }

  abbrev count : Value
  count = record { number = (value_of c.list.result).number; value = c.unwrap_or-count.result }

  sized : ClassSize most_marks c.args.sheet.now size
  sized = subst (ClassSize most_marks c.args.sheet.now) (valued c.class_size.result c.unwrap_or-size.ensures) c.class_size.ensures

  -- the list of the sheet's record, whichever it is
  listed : {r : Record} → OfRecord c.args.sheet.now r → Given r c.area-area.result count c.list.new.area
  listed of =
      given of c.area-area.ensures
      (subst (λ (v : Value). Listed most_marks c.args.sheet.now c.area-area.result v c.list.new.area) (valued c.list.result c.unwrap_or-count.ensures) c.list.ensures)

pub put_lines-requires-clause-m_le_most_marks : goal.put_lines-requires-clause-m_le_most_marks
put_lines-requires-clause-m_le_most_marks c = sheet_marks c.requires.sheet_of_record.1

pub put_lines-requires-clause-have_entries : goal.put_lines-requires-clause-have_entries
put_lines-requires-clause-have_entries c =
    let of = c.requires.sheet_of_record.1 in
    let s = (goal.at.put_lines-requires-clause-have_entries c).After-unwrap_or-count in
    let long : length c.args.sheet.now.held ≡ entries = search rules in
    front_inside of.good (listed s of) c.args.sheet.now.held long

pub slice_bounds-put_lines-end-2 : goal.slice_bounds-put_lines-end-2
slice_bounds-put_lines-end-2 c =
    let s = (goal.at.slice_bounds-put_lines-end-2 c).After-unwrap_or-count in
    sym (length-take-le _ _ (laid_inside (listed s c.requires.sheet_of_record.1).1))

pub put_lines-requires-clause-has_room : goal.put_lines-requires-clause-has_room
put_lines-requires-clause-has_room c =
    let s = (goal.at.put_lines-requires-clause-has_room c).After-unwrap_or-count in
    let of = c.requires.sheet_of_record.1 in
    let p = c.put_heads.ensures in
    lines_room of (listed s of) (sized s) _ p.len (omega (arith, c.behind-page.ensures.len, p.long, ap length c.behind-page.ensures.area))

pub put_total-requires : goal.put_total-requires
put_total-requires c =
    let s = (goal.at.put_total-requires c).After-unwrap_or-count in
    let of = c.requires.sheet_of_record.1 in
    let p = c.put_heads.ensures in
    let room : c.put_lines.new.page.len + 32 ≤ length c.put_heads.new.page.area.now =
    total_room of (listed s of) (sized s) _ p.len (omega (arith, c.behind-page.ensures.len, p.long, ap length c.behind-page.ensures.area)) c.put_lines.ensures.short in
    omega (arith, room, c.put_lines.ensures.lines.long)

pub returns : goal.returns
returns c =
    λ r of.
    let s = (goal.at.returns c).After-unwrap_or-count in
    let l = c.put_lines.ensures in
    let totalled = subst (Totalled most_marks c.args.sheet.now) (valued c.total.result c.unwrap_or-total.ensures) c.total.ensures in
    printed of (listed s of) (sized s) totalled c.behind-page.ensures.area c.behind-page.ensures.len c.requires.result_room_in_bounds (search rules)
    c.put_heads.ensures l.lines l.short c.put_total.ensures
