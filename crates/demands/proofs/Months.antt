-- A session stays in states whose history is one of accepted calls with rising months (bookings `Kept`); of such a history the calls up to a month's end are
-- calls of demand 3.
use Prim.Native.Nat.{ℕ, ◌≤◌}
use mathlib.Core.Path.{◌≡◌, sym, ap, ◌∙◌, subst}
use mathlib.Core.List.{List, [], ◌++◌}
use Rattle.dates.proofs.Known.{known}
use Rattle.sheet.specs.Limits.{most_marks, entries}
use Rattle.sheet.specs.Record.{Record}
use Rattle.sheet.specs.Answers.{open_of}
use Rattle.sheet.specs.Told.{Answer}
use Rattle.sheet.proofs.Answers.{open_done}
use Rattle.totals.specs.Totals.{total_of}
use Rattle.ground.specs.Texts.{ascii}
use Rattle.machine.specs.Pieces.{in-line, start, Takes}
use Rattle.machine.proofs.Outputs.{takes-kept}
use Rattle.machine.proofs.Pieces.{any_pieces}
use Rattle.bookings.specs.Bookings.{History}
use Rattle.bookings.specs.Months.{Kept}
use Rattle.bookings.proofs.Sequences.{accepts_after, accepts_numbers}
use Rattle.bookings.proofs.After.{date_good, date_bad, not_booked}
use Rattle.year.specs.Prints.{page, going, months as machine, Prints}
use Rattle.year.specs.Heard.{EndsWith}
use Rattle.year.specs.States.{Sensible}
use Rattle.year.proofs.Outputs.{exactly_one, sensible_step, good_start}
use Rattle.year.proofs.Ends.{rows_at_stop, rows_at_end}
use Rattle.year.proofs.Answers.{PlainIn, plain_step, year_seen, marks_seen, line_seen, rows_last}
use Rattle.demands.specs.Demand3.{opening}
use Rattle.demands.specs.Months.{HasBooked, calls_up_to, MonthRow, Months}
use Rattle.demands.proofs.Demand3.{demand_3}

booked_kept : {input : List ℕ} {h : History} → HasBooked input h → Kept h
booked_kept b = (takes-kept Sensible (λ k s t row now e g. sensible_step e g) b.takes (good_start 0)).0

month_row_kept : {h : History} → Kept h → (m : ℕ) → 1 ≤ m → MonthRow h m
month_row_kept {h} kept m l =
    let done : (open_of most_marks entries h.marks).number ≡ 0 = ap (λ (a : Answer). a.number) (sym (open_done most_marks entries h.marks kept.good.marks)) in
    let made = demand_3.calls (opening h.marks done) (calls_up_to h m) in
    let each = kept.each m l in
    record {
      opens = done;
      accepted = made.0 ∙ accepts_numbers each;
      total = λ t. made.1.total t ∙ ap (λ (r : Record). record { number = 0; value = total_of r }) (accepts_after each);
    }

at_end : {input output : List ℕ} {h : History} (rest : List ℕ) (b : HasBooked input h) → b.begun ≡ [] → Prints (input ++ (ascii "end\n" ++ rest)) output
    → EndsWith (page h) output
at_end {input} {h = h} rest b e made =
    rows_at_end input rest (subst (λ (l : List ℕ). Takes machine (start machine) input (in-line b.line (going b.dated h) l) b.said) e b.takes) made

pub months : Months
months = record {
  one = exactly_one;
  pieces = λ p. any_pieces machine _ _ p;
  rows_last = rows_last;
  at_stop = λ b made. rows_at_stop _ b.takes made;
  at_end = at_end;
  row = λ b m l. month_row_kept (booked_kept b) m l;
  december = λ b. let kept = booked_kept b in kept.whole 12 kept.month.1;
  eleven = date_bad;
  not_eleven = date_good;
  refused = not_booked;
  heard_1 = year_seen;
  heard_2 = marks_seen;
  heard = λ b. line_seen (takes-kept PlainIn (λ k s t row now. plain_step) b.takes tt);
  calendar = known;
}
