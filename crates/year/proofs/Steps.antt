-- A line in a session: what the calls of the code tell is a step from the session's state.
use Prim.Native.Nat.{ℕ, ◌≤◌}
use mathlib.Core.Path.{◌≡◌, refl, sym, ap, ◌∙◌, subst}
use mathlib.Core.Bool.{Bool, true, false, cond, true≢false}
use mathlib.Core.List.{List, []}
use native.Mathlib.Omega.{arith}
use lib.ListN.{replicate}
use borrow.Author.Tests.{eq-eqb}
use Rattle.std.specs.Prelude.{Option, Some, None, Result, Err}
use Rattle.ground.specs.Areas.{Wrote}
use Rattle.ground.proofs.Areas.{wrote_none, wrote_text}
use Rattle.ground.proofs.Cases.{clash}
use Rattle.dates.specs.declared.date.Date.{Date}
use Rattle.sheet.specs.Limits.{most_marks, entries}
use Rattle.sheet.specs.Record.{sheet_of, opened}
use Rattle.sheet.specs.declared.Sheet.{Sheet}
use Rattle.sheet.specs.Told.{Answer, answer_of}
use Rattle.sheet.specs.Told.{Value}
use Rattle.sheet.proofs.Limits.{marks_most}
use Rattle.changes.specs.Calls.{did_of}
use Rattle.changes.specs.declared.Call.{Call}
use Rattle.totals.specs.Totals.{total_of, Totalled}
use Rattle.histories.specs.Histories.{number_of, accepted, after, after_all}
use Rattle.histories.proofs.Kept.{did_kept}
use Rattle.histories.proofs.Afresh.{total_afresh}
use Rattle.refusals.specs.declared.Refusal.{Refusal}
use Rattle.refusals.specs.declared.Refusal.TheVariants.{Unreadable as CannotRead}
use Rattle.machine.specs.Rows.{Row}
use Rattle.machine.specs.Machine.{refusal, spoken}
use Rattle.machine.specs.Steps.{page_room, SteppedBy, StoppedBy}
use Rattle.machine.specs.Programs.{Runs, Taken, Steps, Stops, SilentWhenOver}
use Rattle.machine.proofs.Outputs.{stepped_one, stopped_one}
use Rattle.machine.proofs.Steps.{answered}
use Rattle.times.specs.declared.Form.{Form}
use Rattle.lines.specs.declared.Order.TheVariants.{Make, End, Unreadable}
use Rattle.year_lines.specs.declared.Slip.{Slip}
use Rattle.year_lines.specs.declared.Slip.TheVariants.{Dated, Plain}
use Rattle.year_lines.specs.Slips.{RowNames, RowAsks}
use Rattle.desk.specs.Prints.{first_number, first_record}
use Rattle.desk.specs.Parts.{FirstAnswered, answer_number}
use Rattle.desk.proofs.Outputs.{first_record_opened}
use Rattle.desk.proofs.Steps.{number_is, answer_told, answer_sheet}
use Rattle.bookings.specs.Bookings.{undated, on, History, begun, calls, any, record_now, month_total, last_date, date_ok, booking_number, with_booking, after_booking}
use Rattle.bookings.specs.Months.{Kept}
use Rattle.bookings.proofs.Sequences.{marks_after}
use Rattle.bookings.proofs.Bookings.{record_more, last_now, month_now, kept_good}
use Rattle.bookings.proofs.After.{booked, not_booked, date_good, record_undated, last_after_undated}
use Rattle.year.specs.Prints.{page, State, first, named, going, over, opening, names, nameless, opens, shut, stock, late, dated, unread, ended, Step, Stop, months}
use Rattle.year.specs.States.{closed_before, booked_with, year_of, kind, In, Stepped}
use Rattle.year.specs.Parts.{beginning, closed_with, Holds, GoesOn, TotalsTo, PageLaid, Books, BooksUndated, BooksOnDay, SteppedTo, YearTaken, MarksTaken, LaterTaken}
use Rattle.year.specs.declared.booked.Booked.{Booked}
use Rattle.year.specs.declared.stages.Year.{Year}
use Rattle.year.specs.declared.stages.Year.TheVariants.{Naming, Opening, Going, Over}
use Rattle.year.proofs.Totals.{closed_none, closed_more, closed_kept}
use Rattle.year.proofs.Outputs.{one_answer, sensible_step}

closed_january : (m : ℕ) (totals : ℕ → ℕ) → m ≡ 1 → closed_before m totals ≡ replicate 12 0
closed_january m totals e = ap (λ (x : ℕ). closed_before x totals) e ∙ closed_none totals

-- line 1 and line 2: nothing is booked

begun-is : (y m : ℕ) {sheet : Sheet} → sheet ≡ sheet_of entries (opened m) → beginning y sheet ≡ booked_with false (begun y m)
unfolding calls after_all
begun-is y m e = λ i. record {
  dated = false;
  sheet = e i;
  last = record { year = y; month = 1; day = 1 };
  closed = sym (closed_none (month_total (begun y m))) i;
}

module _ {row : Row} {k : ℕ} {out : List ℕ} where
  pub line_named : {n : Option ℕ} {y : ℕ} → RowNames row n → n ≡ Some y → YearTaken k row out (Opening y) 0 out
  line_named {y = y} r q = record { state = named y; said = []; step = names (subst (RowNames row) q r); is = refl; laid = wrote_none out 0; short = omega arith }

  pub line_nameless : {w : ℕ} {later : List ℕ} {n : Option ℕ} → RowNames row n → n ≡ None → Wrote out 0 (refusal k 10) w later → w ≤ page_room
      → {year : Booked} → year ≡ beginning 0 (sheet_of entries (opened 1)) → YearTaken k row out (Over year) w later
  line_nameless r q p short is = answered (over (begun 0 1)) 10 (nameless (subst (RowNames row) q r)) (ap Over (is ∙ begun-is 0 1 refl)) refl p short

sheet_opened : {row : Row} {a : Answer} (f : FirstAnswered row a) → a.sheet ≡ sheet_of entries (opened (first_record f.says).marks)
sheet_opened f = ap (λ (x : Answer). x.sheet) f.is ∙ ap (sheet_of entries) (first_record_opened f.says)

module _ {row : Row} {a : Answer} (f : FirstAnswered row a) {k y : ℕ} {out : List ℕ} where
  pub marks_opened : {year : Booked} → year ≡ beginning y a.sheet → a.number ≡ 0 → MarksTaken y k row out (Going year) 0 out
  marks_opened is z = record {
    state = going false (opening y f.says);
    said = [];
    step = opens f.opens (sym (number_is f) ∙ z);
    is = ap Going (is ∙ begun-is y (first_record f.says).marks (sheet_opened f));
    laid = wrote_none out 0;
    short = omega arith;
  }

  pub marks_shut : {w : ℕ} {later : List ℕ} → Wrote out 0 (refusal k a.number) w later → w ≤ page_room → (a.number ≡ 0 → ⊥) → {year : Booked} → year ≡ beginning y a.sheet → MarksTaken y k row out (Over year) w later
  marks_shut p short n q = record {
    state = over (opening y f.says);
    said = refusal k (first_number f.says);
    step = shut f.opens (λ z. n (number_is f ∙ z));
    is = ap Over (q ∙ begun-is y (first_record f.says).marks (sheet_opened f));
    laid = wrote_text (ap (refusal k) (number_is f)) p;
    short = short;
  }

-- what is booked behind line 2

module _ {y : Booked} {b : Bool} {h : History} (i : Holds y b h) where
  kept : Kept h
  kept = i.can.0

  sheet_is : y.sheet ≡ sheet_of entries (record_now h)
  sheet_is = ap (λ (x : Booked). x.sheet) i.is

  dated_is : y.dated ≡ b
  dated_is = ap (λ (x : Booked). x.dated) i.is

  pub last_is : y.last ≡ last_date h
  last_is = ap (λ (x : Booked). x.last) i.is

  closed_is : y.closed ≡ closed_before (last_date h).month (month_total h)
  closed_is = ap (λ (x : Booked). x.closed) i.is

  pub marks_is : y.sheet.marks ≡ h.marks
  marks_is = ap (λ (s : Sheet). s.marks) sheet_is ∙ marks_after (opened h.marks) (calls any h.bookings)

  pub marks_few : y.sheet.marks ≤ most_marks
  marks_few = omega (arith, marks_is, marks_most most_marks h.marks kept.good.marks)

  pub month_few : (1 ≤ y.last.month) × (y.last.month ≤ 12)
  month_few = subst (λ (d : Date). (1 ≤ d.month) × (d.month ≤ 12)) (sym last_is) kept.month

  ok_is : (d : Date) → date_ok y.last.year y.last d ≡ date_ok h.year (last_date h) d
  ok_is d = ap (λ (l : Date). date_ok l.year l d) last_is ∙ ap (λ (n : ℕ). date_ok n (last_date h) d) kept.year

  -- a dated line has come
  pub holds_dated : Holds (record { dated = true; sheet = y.sheet; last = y.last; closed = y.closed }) true h
  holds_dated = record {
    is = λ j. record { dated = true; sheet = sheet_is j; last = last_is j; closed = closed_is j };
    can = (kept, λ z. absurd (true≢false z));
  }

  -- the totals of the months that are over

  pub totals_same : {month : ℕ} → y.last.month ≡ month → y.closed ≡ closed_before month (month_total h)
  totals_same e = closed_is ∙ ap (λ (m : ℕ). closed_before m (month_total h)) (ap (λ (d : Date). d.month) (sym last_is) ∙ e)

  pub totals_more : {month : ℕ} {v : Value} {r : List ℕ} → Totalled most_marks y.sheet v → y.last.month ≤ month
      → r ≡ closed_with y.closed y.last.month month v.value → r ≡ closed_before month (month_total h)
  totals_more {month} {v} t l e =
      let total : v.value ≡ total_of (record_now h) =
      ap (λ (x : Value). x.value) (total_afresh (record_now h) (kept_good kept) v (subst (λ (s : Sheet). Totalled most_marks s v) sheet_is t)) in
      let here : y.last.month ≡ (last_date h).month = ap (λ (d : Date). d.month) last_is in
      e ∙ ap (λ (x : List ℕ). closed_with x y.last.month month v.value) (totals_same refl)
      ∙ closed_more (month_total h) y.last.month month v.value l (λ n q. month_now kept n (omega arith) ∙ sym total)

  -- a call that was made on the sheet

  module _ (a : Result (Unit {0}) Refusal) (s : Sheet) (c : Call) (did : answer_of a s ≡ did_of most_marks y.sheet c) where
    did_is : answer_of a s ≡ record { number = number_of (record_now h) c; sheet = sheet_of entries (after (record_now h) c) }
    did_is = did ∙ ap (λ (x : Sheet). did_of most_marks x c) sheet_is ∙ did_kept (record_now h) (kept_good kept) c

    did_number : answer_number a ≡ number_of (record_now h) c
    did_number = sym (answer_told a s) ∙ ap (λ (x : Answer). x.number) did_is

    did_sheet : s ≡ sheet_of entries (after (record_now h) c)
    did_sheet = sym (answer_sheet a s) ∙ ap (λ (x : Answer). x.sheet) did_is

-- a call without a date

pub undated_stock : {y : Booked} {a : Result (Unit {0}) Refusal} {s : Sheet} (c : Call) → y.dated ≡ false → answer_of a s ≡ did_of most_marks y.sheet c
    → BooksUndated y c a (record { dated = y.dated; sheet = s; last = y.last; closed = y.closed })
undated_stock {y} {a} {s} c e did = (λ h i. clash (dated_is i) e, stock_of)
  where
    stock_of : (h : History) → Holds y false h
        → Books a (record { dated = y.dated; sheet = s; last = y.last; closed = y.closed }) (booking_number h (undated c)) false (after_booking h (undated c))
    stock_of h i =
        let stays = last_after_undated h c in
        let january = i.can.1 refl in
        let sheet : s ≡ sheet_of entries (record_now (after_booking h (undated c))) = did_sheet i a s c did ∙ ap (sheet_of entries) (sym (record_undated h c)) in
        let last : y.last ≡ last_date (after_booking h (undated c)) = last_is i ∙ sym stays in
        let closed : y.closed ≡ closed_before (last_date (after_booking h (undated c))).month (month_total (after_booking h (undated c))) =
        closed_is i ∙ closed_january _ (month_total h) january
        ∙ sym (closed_january _ (month_total (after_booking h (undated c))) (ap (λ (d : Date). d.month) stays ∙ january)) in
        record { told = did_number i a s c did; is = λ j. record { dated = e j; sheet = sheet j; last = last j; closed = closed j } }

-- a call on a day

module _ {y : Booked} (d : Date) (c : Call) where
  -- it was refused, and nothing but the flag changed
  not_taken : {a : Result (Unit {0}) Refusal} {b : Bool} {h : History} → Holds y b h → answer_number a ≡ booking_number h (on d c) → (booking_number h (on d c) ≡ 0 → ⊥)
      → Books a (record { dated = true; sheet = y.sheet; last = y.last; closed = y.closed }) (booking_number h (on d c)) true (after_booking h (on d c))
  not_taken {h = h} i q n = record { told = q; is = (holds_dated i).is ∙ ap (booked_with true) (sym (not_booked h (on d c) n)) }

  module _ (a : Result (Unit {0}) Refusal) (s : Sheet) (ok : date_ok y.last.year y.last d ≡ true) (did : answer_of a s ≡ did_of most_marks y.sheet c) where
    day_number : {b : Bool} {h : History} → Holds y b h → answer_number a ≡ booking_number h (on d c)
    day_number {h = h} i = did_number i a s c did ∙ sym (date_good h d c (sym (ok_is i d) ∙ ok))

    pub day_refused : (answer_number a ≡ 0 → ⊥) → s ≡ y.sheet → BooksOnDay y d c a (record { dated = true; sheet = s; last = y.last; closed = y.closed })
    day_refused n same b h i =
        let w = not_taken i (day_number i) (λ z. n (day_number i ∙ z)) in
        record { told = w.told; is = ap (λ (x : Sheet). record { dated = true; sheet = x; last = y.last; closed = y.closed }) same ∙ w.is }

    pub day_taken : {totals : List ℕ} → answer_number a ≡ 0 → TotalsTo (record { dated = true; sheet = y.sheet; last = y.last; closed = y.closed }) d.month totals → BooksOnDay y d c a (record { dated = true; sheet = s; last = d; closed = totals })
    day_taken {totals} z t b h i =
        let n = day_number i in
        let fits = sym (ok_is i d) ∙ ok in
        let here = last_now (kept i) d c fits in
        let taken : after (record_now h) c ≡ accepted (record_now h) c =
        ap (λ (q : Bool). cond q (accepted (record_now h) c) (record_now h)) (eq-eqb (number_of (record_now h) c) 0 (sym (did_number i a s c did) ∙ z)) in
        let sheet : s ≡ sheet_of entries (record_now (with_booking h (on d c))) = did_sheet i a s c did ∙ ap (sheet_of entries) (taken ∙ sym (record_more h (on d c))) in
        let closed : totals ≡ closed_before (last_date (with_booking h (on d c))).month (month_total (with_booking h (on d c))) =
        t true h (holds_dated i) ∙ closed_kept (kept i) d c fits ∙ ap (λ (e : Date). closed_before e.month (month_total (with_booking h (on d c)))) (sym here) in
        let is : record { dated = true; sheet = s; last = d; closed = totals } ≡ booked_with true (with_booking h (on d c)) =
        λ j. record { dated = true; sheet = sheet j; last = sym here j; closed = closed j } in
        record { told = n; is = is ∙ ap (booked_with true) (sym (booked h (on d c) (sym n ∙ z))) }

-- by the stage

stage_no : Year → ℕ
stage_no Naming = 0
stage_no (Opening y) = 1
stage_no (Going y) = 2
stage_no (Over y) = 3

other_stage : {Q : Type 0} {y z : Year} → y ≡ z → (stage_no y ≡ stage_no z → ⊥) → Q
other_stage q n = absurd (n (ap stage_no q))

booked_in : Booked → Year → Booked
booked_in other Naming = other
booked_in other (Opening y) = other
booked_in other (Going y) = y
booked_in other (Over y) = other

year_in : ℕ → Year → ℕ
year_in other Naming = other
year_in other (Opening y) = y
year_in other (Going y) = other
year_in other (Over y) = other

-- behind line 2 the history of the state is booked
pub holds : {d : Year} {y : Booked} → d ≡ Going y → (s : State) → In d s → (b : Bool) × (h : History) × (s ≡ going b h) × Holds y b h
unfolding stage_no booked_in
holds {y = y} q (going b h) i = (b, h, refl, record { is = ap (booked_in y) (sym q ∙ i.is); can = i.can })
holds q first i = other_stage (sym q ∙ i.is) (λ z. omega arith)
holds q (named y) i = other_stage (sym q ∙ i.is) (λ z. omega arith)
holds q (over h) i = other_stage (sym q ∙ i.is) (λ z. omega arith)

pub goes_on : {d : Year} {y : Booked} → d ≡ Going y → Runs kind d → GoesOn y
goes_on q runs = let w = holds q runs.0 runs.1 in (w.0, w.1, w.3)

module _ {d now : Year} {k w : ℕ} {row : Row} {out later : List ℕ} where
  taken : (s : State) → In d s → SteppedBy months year_of k s row out now w later → Taken kind k s row out now w later
  taken s i e = record { by = e; can = sensible_step e.step i.can }

  pub step_naming : d ≡ Naming → YearTaken k row out now w later → Steps kind d k row out now w later
  unfolding stage_no
  step_naming q e first i = taken first i e
  step_naming q e (named y) i = other_stage (sym q ∙ i.is) (λ z. omega arith)
  step_naming q e (going b h) i = other_stage (sym q ∙ i.is) (λ z. omega arith)
  step_naming q e (over h) i = other_stage (sym q ∙ i.is) (λ z. omega arith)

  pub step_opening : {y : ℕ} → d ≡ Opening y → MarksTaken y k row out now w later → Steps kind d k row out now w later
  unfolding stage_no year_in
  step_opening {y} q e (named x) i =
      taken (named x) i (subst (λ (n : ℕ). SteppedBy months year_of k (named n) row out now w later) (ap (year_in y) (sym q ∙ i.is)) e)
  step_opening q e first i = other_stage (sym q ∙ i.is) (λ z. omega arith)
  step_opening q e (going b h) i = other_stage (sym q ∙ i.is) (λ z. omega arith)
  step_opening q e (over h) i = other_stage (sym q ∙ i.is) (λ z. omega arith)

  pub step_going : {y : Booked} → d ≡ Going y → ((b : Bool) (h : History) → Holds y b h → LaterTaken k b h row out now w later) → Steps kind d k row out now w later
  step_going q e s i =
      let at = holds q s i in taken s i (subst (λ (t : State). SteppedBy months year_of k t row out now w later) (sym at.2) (e at.0 at.1 at.3))

pub step_over : {d : Year} {y : Booked} {k : ℕ} {row : Row} {out : List ℕ} → d ≡ Over y → Steps kind d k row out d 0 out
unfolding stage_no
step_over {out = out} q (over h) i =
    taken (over h) i (record { state = over h; said = []; step = Step.silent; is = i.is; laid = wrote_none out 0; short = omega arith })
step_over q first i = other_stage (sym q ∙ i.is) (λ z. omega arith)
step_over q (named y) i = other_stage (sym q ∙ i.is) (λ z. omega arith)
step_over q (going b h) i = other_stage (sym q ∙ i.is) (λ z. omega arith)

pub silent : SilentWhenOver kind
silent first e = clash e refl
silent (named y) e = clash e refl
silent (going b h) e = clash e refl
silent (over h) e = record { step = λ n row. (over h, Step.silent, refl); stop = Stop.silent }

-- a later line, with what it asks for

module _ {y : Booked} {b : Bool} {h : History} (i : Holds y b h) {row : Row} {slip : Slip} (asked : RowAsks y.sheet.marks row slip) where
  asks : {t : Slip} → slip ≡ t → RowAsks h.marks row t
  asks e = subst (RowAsks h.marks row) e (subst (λ (m : ℕ). RowAsks m row slip) (marks_is i) asked)

  module _ {k w : ℕ} {out later : List ℕ} where
    pub later_ended : slip ≡ Plain End → PageLaid y out 0 w later → LaterTaken k b h row out (Over (record { dated = false; sheet = y.sheet; last = y.last; closed = y.closed })) w later
    later_ended q p = let at = p b h i in record { state = over h; said = page h; step = ended (asks q); is = ap (λ (x : Booked). Over (record { dated = false; sheet = x.sheet; last = x.last; closed = x.closed })) i.is; laid = at.1; short = omega (arith, at.0) }

    module _ {d : Year} {answer : Result (Unit {0}) Refusal} (laid : Wrote out 0 (spoken k (answer_number answer)) w later) (short : w ≤ page_room) where
      pub later_dated : {t : Date} {c : Call} {f : Option Form} {a : Result (Unit {0}) Refusal} {now : Booked} → slip ≡ Dated t c f → BooksOnDay y t c a now → answer ≡ a
          → d ≡ Going now → LaterTaken k b h row out d w later
      later_dated {t} {c} q books same is =
          let n = books b h i in
          answered (going true (after_booking h (on t c))) (booking_number h (on t c)) (dated (asks q)) (is ∙ ap Going n.is) (ap answer_number same ∙ n.told) laid short

      pub later_plain : {c : Call} {f : Option Form} {a : Result (Unit {0}) Refusal} {now : Booked} → slip ≡ Plain (Make c f) → BooksUndated y c a now → answer ≡ a
          → d ≡ Going now → LaterTaken k b h row out d w later
      later_plain {c} {f} {a} {now} q books same is = go b i (asks q)
        where
          go : (u : Bool) → Holds y u h → RowAsks h.marks row (Plain (Make c f)) → LaterTaken k u h row out d w later
          go true j r = let n = books.0 h j in answered (going true h) 10 (late r) (is ∙ ap Going n.is) (ap answer_number same ∙ n.told) laid short
          go false j r =
              let n = books.1 h j in
              answered (going false (after_booking h (undated c))) (booking_number h (undated c)) (stock r) (is ∙ ap Going n.is) (ap answer_number same ∙ n.told) laid short

      pub later_unread : slip ≡ Plain Unreadable → answer ≡ Err (CannotRead 0) → d ≡ Going y → LaterTaken k b h row out d w later
      later_unread q same is = answered (going b h) 10 (unread (asks q)) (is ∙ ap Going i.is) (ap answer_number same) laid short

-- the end of the input

module _ {d : Year} {out : List ℕ} {at : ℕ} where
  pub stop_naming : d ≡ Naming → Stops kind d out at at out
  unfolding stage_no
  stop_naming q first i = record { said = []; stop = Stop.empty; laid = wrote_none out at }
  stop_naming q (named y) i = other_stage (sym q ∙ i.is) (λ z. omega arith)
  stop_naming q (going b h) i = other_stage (sym q ∙ i.is) (λ z. omega arith)
  stop_naming q (over h) i = other_stage (sym q ∙ i.is) (λ z. omega arith)

  pub stop_opening : {y : ℕ} → d ≡ Opening y → Stops kind d out at at out
  unfolding stage_no
  stop_opening q (named y) i = record { said = []; stop = Stop.unopened; laid = wrote_none out at }
  stop_opening q first i = other_stage (sym q ∙ i.is) (λ z. omega arith)
  stop_opening q (going b h) i = other_stage (sym q ∙ i.is) (λ z. omega arith)
  stop_opening q (over h) i = other_stage (sym q ∙ i.is) (λ z. omega arith)

  pub stop_going : {y : Booked} {later : List ℕ} {w : ℕ} → d ≡ Going y → PageLaid y out at w later → Stops kind d out at w later
  stop_going {later = later} {w} q p s i =
      let n = holds q s i in
      subst (λ (t : State). StoppedBy months t out at w later) (sym n.2) (record { said = page n.1; stop = Stop.rows; laid = (p n.0 n.1 n.3).1 })

  pub stop_over : {y : Booked} → d ≡ Over y → Stops kind d out at at out
  unfolding stage_no
  stop_over q (over h) i = record { said = []; stop = Stop.silent; laid = wrote_none out at }
  stop_over q first i = other_stage (sym q ∙ i.is) (λ z. omega arith)
  stop_over q (named y) i = other_stage (sym q ∙ i.is) (λ z. omega arith)
  stop_over q (going b h) i = other_stage (sym q ∙ i.is) (λ z. omega arith)

-- NO TWO RETURNS of `step` and of `stop`

pub step_settled : {k : ℕ} {s : State} {row : Row} {out o₁ o₂ : List ℕ} {r q : Stepped} → SteppedTo k s row out r o₁ → SteppedTo k s row out q o₂ → (r ≡ q) × (o₁ ≡ o₂)
step_settled f g = let t = stepped_one one_answer f g in ((λ i. record { year = t.0 i; wrote = t.1 i }), t.2)

pub stop_settled : {s : State} {out o₁ o₂ : List ℕ} {at r q : ℕ} → StoppedBy months s out at r o₁ → StoppedBy months s out at q o₂ → (r ≡ q) × (o₁ ≡ o₂)
stop_settled f g = stopped_one one_answer f g
