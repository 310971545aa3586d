-- EXACTLY ONE OUTPUT FOR EACH INPUT: each line is read one way, every line asks for something, and there is one first shortest list.
use Prim.Native.Nat.{ℕ}
use mathlib.Core.Path.{◌≡◌, refl, sym, ap, ◌∙◌}
use mathlib.Core.List.{List, []}
use native.Mathlib.Omega.{arith}
use Rattle.std.specs.Prelude.{Option, Some, None}
use Rattle.ground.proofs.Cases.{if, same_or}
use Rattle.lists.proofs.First.{unique}
use Rattle.lists.proofs.Model.{found}
use Rattle.sheet.specs.Limits.{most_marks, marks_ok}
use Rattle.sheet.specs.Record.{Record, in_class, not_out, opened}
use Rattle.sheet.proofs.Told.{in-not-out}
use Rattle.changes.specs.declared.Call.{Call}
use Rattle.histories.specs.Histories.{Good, number_of, after}
use Rattle.histories.proofs.Goods.{good_after, good_opened, good_small}
use Rattle.machine.specs.Rows.{Row}
use Rattle.machine.specs.Machine.{refusal, spoken}
use Rattle.machine.specs.Answers.{OneAnswer, SomeAnswer}
use Rattle.machine.proofs.Outputs.{can_step, one_output}
use Rattle.lines.specs.declared.Order.{Order}
use Rattle.times.specs.declared.Form.{Form}
use Rattle.lines.specs.declared.Order.TheVariants.{Make, End, Unreadable}
use Rattle.lines.specs.Words.{RowAsks}
use Rattle.lines.proofs.Settled.{row_asks_settled, row_opens_settled}
use Rattle.lines.proofs.Decided.{row_asks_decided, row_opens_decided}
use Rattle.desk.specs.Prints.{page, Result, first_number, first_record, State, first, going, over, Step, opens, shut, made, unread, ended, Stop, holdings, Prints}
use Rattle.desk.specs.States.{record_in}

-- one output

result_one : {r : Record} {a b : List ℕ} → Result r a → Result r b → a ≡ b
result_one {r} x y = x.is ∙ ap (page r) (unique x.first y.first) ∙ sym y.is

kind : Order → ℕ
kind (Make c f) = 0
kind Unreadable = 1
kind End = 2

-- a line does not ask for two things
unlike : {P : Type 0} {m : ℕ} {row : Row} {o p : Order} → RowAsks m row o → RowAsks m row p → (kind o ≡ kind p → ⊥) → P
unlike w v n = absurd (n (ap kind (row_asks_settled w v)))

called : Order → Call → Call
called (Make c f) k = c
called Unreadable k = k
called End k = k

same_call : {m : ℕ} {row : Row} {c k : Call} {f g : Option Form} → RowAsks m row (Make c f) → RowAsks m row (Make k g) → c ≡ k
unfolding called
same_call {c = c} w v = ap (λ (o : Order). called o c) (row_asks_settled w v)

step_one : {k : ℕ} {s t u : State} {row : Row} {a b : List ℕ} → Step k s row t a → Step k s row u b → (t ≡ u) × (a ≡ b)
unfolding kind
step_one (opens w z) (opens v q) = (ap (λ (f : Option ℕ). going (first_record f)) (row_opens_settled w v), refl)
step_one (opens w z) (shut v n) = absurd (n (ap first_number (sym (row_opens_settled w v)) ∙ z))
step_one (shut v n) (opens w z) = absurd (n (ap first_number (row_opens_settled v w) ∙ z))
step_one {k} (shut w n) (shut v q) =
    (ap (λ (f : Option ℕ). over (first_record f)) (row_opens_settled w v), ap (λ (f : Option ℕ). refusal k (first_number f)) (row_opens_settled w v))
step_one {k} (made {r} w) (made v) = (ap (λ (c : Call). going (after r c)) (same_call w v), ap (λ (c : Call). spoken k (number_of r c)) (same_call w v))
step_one (made w) (unread v) = unlike w v (λ z. omega arith)
step_one (made w) (ended v t) = unlike w v (λ z. omega arith)
step_one (unread w) (made v) = unlike w v (λ z. omega arith)
step_one (unread w) (unread v) = (refl, refl)
step_one (unread w) (ended v t) = unlike w v (λ z. omega arith)
step_one (ended w t) (made v) = unlike w v (λ z. omega arith)
step_one (ended w t) (unread v) = unlike w v (λ z. omega arith)
step_one (ended w t) (ended v q) = (refl, result_one t q)
step_one Step.silent Step.silent = (refl, refl)

stop_one : {s : State} {a b : List ℕ} → Stop s a → Stop s b → a ≡ b
stop_one Stop.empty Stop.empty = refl
stop_one (Stop.result x) (Stop.result y) = result_one x y
stop_one Stop.silent Stop.silent = refl

pub one_answer : OneAnswer holdings
one_answer = record { step = step_one; stop = stop_one }

-- some output

result : (r : Record) → Good r → (text : List ℕ) × Result r text
result r good =
    let l = found r.marks (in_class r) (not_out r) (good_small good) (in-not-out r) in
    (page r l.0, record { list = l.0; first = l.2; is = refl })

pub good_one : Good (opened 1)
unfolding marks_ok
good_one = good_opened 1 refl

-- the sheet that line 1 opens is an opened one
pub first_record_opened : (f : Option ℕ) → first_record f ≡ opened (first_record f).marks
first_record_opened (Some n) = if (marks_ok most_marks n) (λ e. rw e) (λ e. rw e)
first_record_opened None = refl

pub good_first : (f : Option ℕ) → Good (first_record f)
good_first (Some n) = if (marks_ok most_marks n) (λ e. rw e (good_opened n e)) (λ e. rw e good_one)
good_first None = good_one

step_some : (k : ℕ) (s : State) (row : Row) → Good (record_in s) → (t : State) × (now : List ℕ) × Step k s row t now × Good (record_in t)
step_some k first row good =
    let w = row_opens_decided row in
    same_or (first_number w.0) 0
    (λ z. (going (first_record w.0), [], opens w.1 z, good_first w.0))
    (λ n. (over (first_record w.0), refusal k (first_number w.0), shut w.1 n, good_first w.0))
step_some k (going r) row good = go (row_asks_decided r.marks row)
  where
    go : (o : Order) × RowAsks r.marks row o → (t : State) × (now : List ℕ) × Step k (going r) row t now × Good (record_in t)
    go (Make c f, w) = (going (after r c), spoken k (number_of r c), made w, good_after r good c)
    go (Unreadable, w) = (going r, refusal k 10, unread w, good)
    go (End, w) = let t = result r good in (over r, t.0, ended w t.1, good)
step_some k (over r) row good = (over r, [], Step.silent, good)

stop_some : (s : State) → Good (record_in s) → (text : List ℕ) × Stop s text
stop_some first good = ([], Stop.empty)
stop_some (going r) good = let t = result r good in (t.0, Stop.result t.1)
stop_some (over r) good = ([], Stop.silent)

some_answer : SomeAnswer holdings
some_answer = record { Can = λ s. Good (record_in s); start = good_one; step = step_some; stop = stop_some }

-- records stay good
pub good_step : {k : ℕ} {s t : State} {row : Row} {now : List ℕ} → Step k s row t now → Good (record_in s) → Good (record_in t)
unfolding some_answer
good_step e g = can_step one_answer some_answer e g

pub exactly_one : (input : List ℕ) → (output : List ℕ) × Prints input output × ((other : List ℕ) → Prints input other → other ≡ output)
exactly_one input = one_output one_answer some_answer input
