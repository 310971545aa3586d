-- EXACTLY ONE OUTPUT FOR EACH INPUT: each line is read one way, and every line asks for something. Behind line 2 what it asks for tells all (`led`).
use Prim.Native.Nat.{ℕ}
use mathlib.Core.Path.{◌≡◌, refl, sym, ap, ◌∙◌, subst}
use mathlib.Core.Bool.{Bool, true, false, true≢false}
use mathlib.Core.List.{List, []}
use native.Mathlib.Omega.{arith}
use Rattle.std.specs.Prelude.{Option, Some, None}
use Rattle.ground.proofs.Cases.{same_or}
use Rattle.dates.specs.declared.date.Date.{Date}
use Rattle.histories.specs.Histories.{Good}
use Rattle.machine.specs.Rows.{Row}
use Rattle.machine.specs.Machine.{refusal, spoken}
use Rattle.machine.specs.Answers.{OneAnswer, SomeAnswer}
use Rattle.machine.proofs.Outputs.{can_step, one_output}
use Rattle.lines.specs.declared.Order.TheVariants.{Make, End, Unreadable}
use Rattle.lines.proofs.Settled.{row_opens_settled}
use Rattle.lines.proofs.Decided.{row_opens_decided}
use Rattle.year_lines.specs.declared.Slip.{Slip}
use Rattle.year_lines.specs.declared.Slip.TheVariants.{Dated, Plain}
use Rattle.year_lines.specs.Slips.{RowNames, RowAsks}
use Rattle.year_lines.proofs.Settled.{row_names_settled, row_asks_settled}
use Rattle.year_lines.proofs.Decided.{row_names_decided, row_asks_decided}
use Rattle.desk.specs.Prints.{first_number, first_record}
use Rattle.desk.proofs.Outputs.{good_one, first_record_opened, good_first}
use Rattle.bookings.specs.Bookings.{undated, on, History, begun, booking_number, after_booking}
use Rattle.bookings.specs.Months.{Kept}
use Rattle.bookings.proofs.Bookings.{kept-begun}
use Rattle.bookings.proofs.After.{kept_after_undated, kept_after_on, last_after_undated}
use Rattle.year.specs.Prints.{page, State, first, named, going, over, opening, Step, names, nameless, opens, shut, stock, late, dated, unread, ended, Stop, months, Prints}
use Rattle.year.specs.States.{Sensible}

-- behind line 2

-- where what a line asks for leads, and what it prints
abbrev pub led : ℕ → Bool → History → Slip → State × List ℕ
led k b h (Dated d c f) = (going true (after_booking h (on d c)), spoken k (booking_number h (on d c)))
led k true h (Plain (Make c f)) = (going true h, refusal k 10)
led k false h (Plain (Make c f)) = (going false (after_booking h (undated c)), spoken k (booking_number h (undated c)))
led k b h (Plain Unreadable) = (going b h, refusal k 10)
led k b h (Plain End) = (over h, page h)

record Led (k : ℕ) (b : Bool) (h : History) (row : Row) (t : State) (text : List ℕ) : Type 0 where
  slip : Slip
  asks : RowAsks h.marks row slip
  state : t ≡ (led k b h slip).0
  said : text ≡ (led k b h slip).1

step_led : {k : ℕ} {b : Bool} {h : History} {row : Row} {t : State} {text : List ℕ} → Step k (going b h) row t text → Led k b h row t text
step_led (stock w) = record { slip = _; asks = w; state = refl; said = refl }
step_led (late w) = record { slip = _; asks = w; state = refl; said = refl }
step_led (dated {b = true} w) = record { slip = _; asks = w; state = refl; said = refl }
step_led (dated {b = false} w) = record { slip = _; asks = w; state = refl; said = refl }
step_led (unread {b = true} w) = record { slip = _; asks = w; state = refl; said = refl }
step_led (unread {b = false} w) = record { slip = _; asks = w; state = refl; said = refl }
step_led (ended {b = true} w) = record { slip = _; asks = w; state = refl; said = refl }
step_led (ended {b = false} w) = record { slip = _; asks = w; state = refl; said = refl }

pub led_step : (k : ℕ) (b : Bool) (h : History) (row : Row) (s : Slip) → RowAsks h.marks row s → Step k (going b h) row (led k b h s).0 (led k b h s).1
led_step k true h row (Dated d c f) w = dated w
led_step k false h row (Dated d c f) w = dated w
led_step k true h row (Plain (Make c f)) w = late w
led_step k false h row (Plain (Make c f)) w = stock w
led_step k true h row (Plain Unreadable) w = unread w
led_step k false h row (Plain Unreadable) w = unread w
led_step k true h row (Plain End) w = ended w
led_step k false h row (Plain End) w = ended w

-- one output

year_no : Option ℕ → ℕ
year_no (Some y) = y
year_no None = 0

is_year : Option ℕ → ℕ
is_year (Some y) = 1
is_year None = 0

going_one : {k : ℕ} {b : Bool} {h : History} {t u : State} {row : Row} {x y : List ℕ} → Step k (going b h) row t x → Step k (going b h) row u y → (t ≡ u) × (x ≡ y)
going_one {k} {b} {h} p q =
    let v = step_led p in
    let w = step_led q in
    let e = row_asks_settled v.asks w.asks in
    (v.state ∙ ap (λ (s : Slip). (led k b h s).0) e ∙ sym w.state, v.said ∙ ap (λ (s : Slip). (led k b h s).1) e ∙ sym w.said)

step_one : {k : ℕ} {s t u : State} {row : Row} {a b : List ℕ} → Step k s row t a → Step k s row u b → (t ≡ u) × (a ≡ b)
unfolding year_no is_year
step_one {s = first} (names w) (names v) = (ap (λ (n : Option ℕ). named (year_no n)) (row_names_settled w v), refl)
step_one {s = first} (names w) (nameless v) = absurd (omega (arith, ap is_year (row_names_settled w v)))
step_one {s = first} (nameless w) (names v) = absurd (omega (arith, ap is_year (row_names_settled w v)))
step_one {s = first} (nameless w) (nameless v) = (refl, refl)
step_one {s = named y} (opens w z) (opens v q) = (ap (λ (f : Option ℕ). going false (opening y f)) (row_opens_settled w v), refl)
step_one {s = named y} (opens w z) (shut v n) = absurd (n (ap first_number (sym (row_opens_settled w v)) ∙ z))
step_one {s = named y} (shut v n) (opens w z) = absurd (n (ap first_number (row_opens_settled v w) ∙ z))
step_one {k} {s = named y} (shut w n) (shut v q) =
    (ap (λ (f : Option ℕ). over (opening y f)) (row_opens_settled w v), ap (λ (f : Option ℕ). refusal k (first_number f)) (row_opens_settled w v))
step_one {s = going b h} p q = going_one p q
step_one {s = over h} Step.silent Step.silent = (refl, refl)

stop_one : {s : State} {a b : List ℕ} → Stop s a → Stop s b → a ≡ b
stop_one Stop.empty Stop.empty = refl
stop_one Stop.unopened Stop.unopened = refl
stop_one Stop.rows Stop.rows = refl
stop_one Stop.silent Stop.silent = refl

pub one_answer : OneAnswer months
one_answer = record { step = step_one; stop = stop_one }

-- some output, and the states stay those that a session can be in

pub good_start : (y : ℕ) → Kept (begun y 1)
good_start y = kept-begun y 1 good_one

pub good_opening : (y : ℕ) (f : Option ℕ) → Kept (opening y f)
good_opening y f = kept-begun y (first_record f).marks (subst Good (first_record_opened f) (good_first f))

sensible_led : (k : ℕ) (b : Bool) (h : History) (s : Slip) → Sensible (going b h) → Sensible (led k b h s).0
sensible_led k true h (Dated d c f) w = (kept_after_on w.0 d c, λ z. absurd (true≢false z))
sensible_led k false h (Dated d c f) w = (kept_after_on w.0 d c, λ z. absurd (true≢false z))
sensible_led k true h (Plain (Make c f)) w = w
sensible_led k false h (Plain (Make c f)) w =
    (kept_after_undated w.0 c (w.1 refl), λ z. ap (λ (d : Date). d.month) (last_after_undated h c) ∙ w.1 refl)
sensible_led k true h (Plain Unreadable) w = w
sensible_led k false h (Plain Unreadable) w = w
sensible_led k true h (Plain End) w = w.0
sensible_led k false h (Plain End) w = w.0

step_some : (k : ℕ) (s : State) (row : Row) → Sensible s → (t : State) × (now : List ℕ) × Step k s row t now × Sensible t
step_some k first row w = go (row_names_decided row)
  where
    go : (n : Option ℕ) × RowNames row n → (t : State) × (now : List ℕ) × Step k first row t now × Sensible t
    go (Some y, v) = (named y, [], names v, good_start y)
    go (None, v) = (over (begun 0 1), refusal k 10, nameless v, good_start 0)
step_some k (named y) row w =
    let v = row_opens_decided row in
    same_or (first_number v.0) 0
    (λ z. (going false (opening y v.0), [], opens v.1 z, (good_opening y v.0, λ e. refl)))
    (λ n. (over (opening y v.0), refusal k (first_number v.0), shut v.1 n, good_opening y v.0))
step_some k (going b h) row w =
    let v = row_asks_decided h.marks row in
    ((led k b h v.0).0, (led k b h v.0).1, led_step k b h row v.0 v.1, sensible_led k b h v.0 w)
step_some k (over h) row w = (over h, [], Step.silent, w)

stop_some : (s : State) → Sensible s → (text : List ℕ) × Stop s text
stop_some first w = ([], Stop.empty)
stop_some (named y) w = ([], Stop.unopened)
stop_some (going b h) w = (page h, Stop.rows)
stop_some (over h) w = ([], Stop.silent)

some_answer : SomeAnswer months
some_answer = record { Can = Sensible; start = good_start 0; step = step_some; stop = stop_some }

pub sensible_step : {k : ℕ} {s t : State} {row : Row} {now : List ℕ} → Step k s row t now → Sensible s → Sensible t
unfolding some_answer
sensible_step e g = can_step one_answer some_answer e g

pub exactly_one : (input : List ℕ) → (output : List ℕ) × Prints input output × ((other : List ℕ) → Prints input other → other ≡ output)
exactly_one input = one_output one_answer some_answer input
