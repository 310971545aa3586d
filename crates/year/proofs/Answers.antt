-- THE ANSWERS THAT A YEAR CAN SEE: a line prints nothing, or the rows, or a refusal by 3, 4, 8, 9, 10 or 11; line 1 by 10, and line 2 by 1 or 10.
use Prim.Native.Nat.{ℕ, ◌+◌, ◌≤◌}
use mathlib.Core.Path.{◌≡◌, refl, sym, ap, ◌∙◌, subst}
use mathlib.Core.Bool.{Bool, true, false, ◌||◌}
use mathlib.Core.List.{List, [], ◌++◌, append-nil}
use native.Mathlib.Omega.{arith}
use lib.Dec.{eqb}
use Rattle.std.specs.Prelude.{Option}
use Rattle.ground.proofs.Cases.{if, clash}
use Rattle.dates.specs.declared.date.Date.{Date}
use Rattle.sheet.specs.Record.{opened}
use Rattle.changes.specs.declared.Call.{Call}
use Rattle.histories.specs.Histories.{number_of, after_all}
use Rattle.machine.specs.Rows.{Row}
use Rattle.machine.specs.Machine.{Onward, spoken}
use Rattle.machine.specs.Heard.{Hears, nothing, page, refused}
use Rattle.machine.proofs.Heard.{spoken_heard}
use Rattle.times.specs.declared.Form.{Form}
use Rattle.lines.specs.declared.Order.TheVariants.{Make}
use Rattle.lines.specs.Words.{Says, said}
use Rattle.desk.specs.Heard as desk
use Rattle.desk.specs.Prints.{first_number}
use Rattle.desk.proofs.Answers.{Plain, opened_plain, after_plain, call_seen, shut_seen}
use Rattle.year_lines.specs.Slips.{RowAsks, plain, dated as on_day}
use Rattle.bookings.specs.Bookings.{undated, on, History, calls, any, record_now, last_date, date_ok, booking_number}
use Rattle.bookings.proofs.Sequences.{marks_after}
use Rattle.bookings.proofs.After.{record_undated, record_on}
use Rattle.year.specs.Heard.{IsPage, in_line1, in_later_line, RowsLast}
use Rattle.year.specs.Prints.{page as printed, State, first, named, going, over, Step, names, nameless, opens, shut, stock, late, dated, unread, ended, Stop, months, Prints}

or_more : (a b c : Bool) → (a || b) ≡ true → (a || (b || c)) ≡ true
or_more true b c e = refl
or_more false true c e = refl
or_more false false c e = clash e refl

-- the record of a history is one of the desk's: no combination is either, and there is no profile

says_now : (h : History) {line : List ℕ} {c : Call} {f : Option Form} → Says h.marks line (Make c f) → Says (record_now h).marks line (Make c f)
says_now h {line} {c} {f} s = subst (λ (m : ℕ). Says m line (Make c f)) (sym (marks_after (opened h.marks) (calls any h.bookings))) s

abbrev pub PlainIn : State → Type 0
PlainIn first = Unit {0}
PlainIn (named y) = Unit {0}
PlainIn (going b h) = Plain (record_now h)
PlainIn (over h) = Plain (record_now h)

pub plain_step : {k : ℕ} {s t : State} {row : Row} {text : List ℕ} → Step k s row t text → PlainIn s → PlainIn t
unfolding calls after_all
plain_step (names w) p = tt
plain_step (nameless w) p = opened_plain _
plain_step (opens w e) p = opened_plain _
plain_step (shut w n) p = opened_plain _
plain_step (stock {h = h} {c = c} (RowAsks.read (plain n (said s)))) p = subst Plain (sym (record_undated h c)) (after_plain (record_now h) p (says_now h s))
plain_step (late w) p = p
plain_step (dated {h = h} {d = d} {c = c} (RowAsks.read (on_day s))) p = record_on h d c Plain p (after_plain (record_now h) p (says_now h s.call))
plain_step (unread w) p = p
plain_step (ended w) p = p
plain_step Step.silent p = p

call_heard : (h : History) {line : List ℕ} {c : Call} {f : Option Form} → Plain (record_now h) → Says h.marks line (Make c f)
    → (eqb (number_of (record_now h) c) 0 || in_later_line (number_of (record_now h) c)) ≡ true
call_heard h {line} {c} {f} p s =
    let n = number_of (record_now h) c in
    or_more (eqb n 0) (desk.in_later_line n) (eqb n 11) (call_seen (record_now h) p (says_now h s))

date_heard : (h : History) {line : List ℕ} (d : Date) {c : Call} {f : Option Form} → Plain (record_now h) → Says h.marks line (Make c f)
    → (eqb (booking_number h (on d c)) 0 || in_later_line (booking_number h (on d c))) ≡ true
date_heard h d p s = if (date_ok h.year (last_date h) d) (λ e. rw e (call_heard h p s)) (λ e. rw e refl)

pub line_seen : {k : ℕ} {b : Bool} {h : History} {row : Row} {t : State} {text : List ℕ} → Plain (record_now h) → Step k (going b h) row t text
    → Hears IsPage k in_later_line text
line_seen {k} {h = h} p (stock {c = c} (RowAsks.read (plain n (said s)))) = spoken_heard k (booking_number h (undated c)) in_later_line (call_heard h p s)
line_seen p (late w) = refused 10 refl
line_seen {k} {h = h} p (dated {d = d} {c = c} (RowAsks.read (on_day s))) = spoken_heard k (booking_number h (on d c)) in_later_line (date_heard h d p s.call)
line_seen p (unread w) = refused 10 refl
line_seen p (ended {h = h} w) = page (h, refl)

pub marks_seen : {k y : ℕ} {row : Row} {t : State} {text : List ℕ} → Step k (named y) row t text → Hears IsPage k desk.in_line1 text
marks_seen (opens w e) = nothing
marks_seen (shut {f = f} w n) = refused (first_number f) (shut_seen f n)

pub year_seen : {k : ℕ} {row : Row} {t : State} {text : List ℕ} → Step k first row t text → Hears IsPage k in_line1 text
year_seen (names w) = nothing
year_seen (nameless w) = refused 10 refl

-- THE ROWS COME LAST, behind all refusals

later : {j k : ℕ} {text : List ℕ} → RowsLast j text → k ≤ j → RowsLast k text
later RowsLast.nothing l = RowsLast.nothing
later (RowsLast.rows h) l = RowsLast.rows h
later {k = k} (RowsLast.refused j n a q r) l = RowsLast.refused k n a (omega arith) r

spoken_last : (k n : ℕ) {rest : List ℕ} → RowsLast (k + 1) rest → RowsLast k (spoken k n ++ rest)
spoken_last k n r = if (eqb n 0) (λ e. rw e (later r (omega arith))) (λ e. rw e (RowsLast.refused k k n (omega arith) r))

over_silent : {k : ℕ} {h : History} {rows : List Row} {text : List ℕ} → Onward months k (over h) rows text → text ≡ []
over_silent (Onward.stopped Stop.silent) = refl
over_silent (Onward.line Step.silent p) = over_silent p

onward_last : {k : ℕ} {s : State} {rows : List Row} {text : List ℕ} → Onward months k s rows text → RowsLast k text
onward_last (Onward.stopped Stop.empty) = RowsLast.nothing
onward_last (Onward.stopped Stop.unopened) = RowsLast.nothing
onward_last (Onward.stopped (Stop.rows {h = h})) = RowsLast.rows h
onward_last (Onward.stopped Stop.silent) = RowsLast.nothing
onward_last (Onward.line (names w) p) = later (onward_last p) (omega arith)
onward_last {k} (Onward.line (nameless w) p) = RowsLast.refused k k 10 (omega arith) (onward_last p)
onward_last (Onward.line (opens w e) p) = later (onward_last p) (omega arith)
onward_last {k} (Onward.line (shut {f = f} w n) p) = RowsLast.refused k k (first_number f) (omega arith) (onward_last p)
onward_last {k} (Onward.line (stock {h = h} {c = c} w) p) = spoken_last k (booking_number h (undated c)) (onward_last p)
onward_last {k} (Onward.line (late w) p) = RowsLast.refused k k 10 (omega arith) (onward_last p)
onward_last {k} (Onward.line (dated {h = h} {d = d} {c = c} w) p) = spoken_last k (booking_number h (on d c)) (onward_last p)
onward_last {k} (Onward.line (unread w) p) = RowsLast.refused k k 10 (omega arith) (onward_last p)
onward_last {k} (Onward.line (ended {h = h} w) p) =
    subst (RowsLast k) (sym (ap (λ (l : List ℕ). printed h ++ l) (over_silent p) ∙ append-nil (printed h))) (RowsLast.rows h)
onward_last (Onward.line Step.silent p) = later (onward_last p) (omega arith)

pub rows_last : (input : List ℕ) {output : List ℕ} → Prints input output → RowsLast 1 output
rows_last input p = onward_last p
