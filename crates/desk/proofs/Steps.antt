-- A line at the desk, and the end of the input: what the calls of the code tell is a step from the desk's state.
use Prim.Native.Nat.{ℕ, ◌≤◌, ◌<◌, ◌^◌}
use mathlib.Core.Path.{◌≡◌, refl, sym, ap, ◌∙◌, subst}
use mathlib.Core.Bool.{Bool, cond}
use mathlib.Core.List.{List, []}
use native.Mathlib.Omega.{arith}
use borrow.Author.Tests.{ne_eqb}
use Rattle.std.specs.Prelude.{Option, Some, None, Result as Told, Ok, Err}
use Rattle.refusals.specs.Numbers.{number_of as number_in}
use Rattle.refusals.specs.declared.Refusal.{Refusal}
use Rattle.refusals.specs.declared.Refusal.TheVariants.{Marks, Combination, Standing, Amount, Room, Spoiled, Above, Below, Unreadable, Date, Either, Profile}
use Rattle.ground.specs.Areas.{Wrote}
use Rattle.ground.proofs.Areas.{wrote_none, wrote_text}
use Rattle.ground.proofs.Cases.{if, clash}
use Rattle.sheet.specs.Limits.{most_marks, entries, marks_ok}
use Rattle.sheet.specs.Record.{Record, sheet_of, opened}
use Rattle.sheet.specs.Answers.{open_of}
use Rattle.sheet.specs.declared.Sheet.{Sheet}
use Rattle.sheet.specs.Told.{Answer, answer_of}
use Rattle.changes.specs.Calls.{did_of}
use Rattle.changes.specs.declared.Call.{Call}
use Rattle.histories.specs.Histories.{number_of, after}
use Rattle.histories.proofs.Kept.{did_kept}
use Rattle.machine.specs.Rows.{Row}
use Rattle.machine.specs.Machine.{refusal, spoken}
use Rattle.machine.specs.Steps.{page_room, SteppedBy, StoppedBy}
use Rattle.machine.specs.Programs.{Runs, Taken, Steps, Stops, SilentWhenOver}
use Rattle.machine.proofs.Laid.{spoken_short}
use Rattle.machine.proofs.Outputs.{stepped_one, stopped_one}
use Rattle.machine.proofs.Steps.{answered}
use Rattle.lines.specs.declared.Order.{Order}
use Rattle.times.specs.declared.Form.{Form}
use Rattle.lines.specs.declared.Order.TheVariants.{Make, End, Unreadable as NotRead}
use Rattle.lines.specs.Words.{RowAsks, RowOpens}
use Rattle.lines.proofs.Settled.{row_opens_settled}
use Rattle.desk.specs.Prints.{first_number, first_record, State, first, going, over, opens, shut, made, unread, ended, Step, Stop, holdings}
use Rattle.desk.specs.States.{desk_of, kind, In, Stepped, SteppedTo}
use Rattle.desk.specs.Parts.{OfRecord, SheetOfRecord, FirstAnswered, FirstTaken, LaterTaken, Printed, answer_number}
use Rattle.desk.proofs.Outputs.{one_answer, good_step}
use Rattle.desk.specs.declared.stages.Desk.{Desk}
use Rattle.desk.specs.declared.stages.Desk.TheVariants.{Opening, Going, Over}

-- what line 1 is answered

pub first_lost : {row : Row} {f : Option ℕ} {sheet : Sheet} → RowOpens row f → f ≡ None → sheet ≡ sheet_of entries (opened 1)
    → FirstAnswered row (record { number = 10; sheet = sheet })
first_lost {row} w q e = record { says = None; opens = subst (RowOpens row) q w; is = ap (λ (s : Sheet). record { number = 10; sheet = s }) e }

pub first_marks : {row : Row} {f : Option ℕ} {n : ℕ} {a : Answer} → RowOpens row f → f ≡ Some n → a ≡ open_of most_marks entries n → FirstAnswered row a
first_marks {row} {n = n} w q e = record { says = Some n; opens = subst (RowOpens row) q w; is = e ∙ go }
  where
    go : ◌≡◌ {A = Answer} (open_of most_marks entries n) (record { number = first_number (Some n); sheet = sheet_of entries (first_record (Some n)) })
    go = if (marks_ok most_marks n) (λ q. rw q) (λ q. rw q)

pub first_settled : {row : Row} {a b : Answer} → FirstAnswered row a → FirstAnswered row b → a ≡ b
first_settled f g =
    f.is ∙ ap (λ (x : Option ℕ). record { number = first_number x; sheet = sheet_of entries (first_record x) }) (row_opens_settled f.opens g.opens) ∙ sym g.is

-- a refusal is what is spoken where there is one
pub spoken_refusal : (k a : ℕ) → (a ≡ 0 → ⊥) → spoken k a ≡ refusal k a
spoken_refusal k a n = ap (λ (b : Bool). cond b [] (refusal k a)) (ne_eqb a 0 n)

pub refusal_short : (k a : ℕ) {w : ℕ} {out later : List ℕ} → (a ≡ 0 → ⊥) → Wrote out 0 (refusal k a) w later → k < 2 ^ 64 → a < 2 ^ 64 → w ≤ page_room
refusal_short k a n p h l = spoken_short k a (wrote_text (sym (spoken_refusal k a n)) p) h l

refusal_small : (e : Refusal) → number_in e < 2 ^ 64
refusal_small Marks = omega arith
refusal_small Combination = omega arith
refusal_small Standing = omega arith
refusal_small Amount = omega arith
refusal_small Room = omega arith
refusal_small Spoiled = omega arith
refusal_small Above = omega arith
refusal_small Below = omega arith
refusal_small (Unreadable p) = omega arith
refusal_small Date = omega arith
refusal_small Either = omega arith
refusal_small Profile = omega arith

pub answer_told : (a : Told (Unit {0}) Refusal) (s : Sheet) → (answer_of a s).number ≡ answer_number a
answer_told (Ok x) s = refl
answer_told (Err e) s = refl

pub answer_sheet : (a : Told (Unit {0}) Refusal) (s : Sheet) → (answer_of a s).sheet ≡ s
answer_sheet (Ok x) s = refl
answer_sheet (Err e) s = refl

answer_small : (a : Told (Unit {0}) Refusal) → answer_number a < 2 ^ 64
answer_small (Ok x) = omega arith
answer_small (Err e) = refusal_small e

pub answer_short : (k : ℕ) (a : Told (Unit {0}) Refusal) {w : ℕ} {out later : List ℕ} → Wrote out 0 (spoken k (answer_number a)) w later → k < 2 ^ 64 → w ≤ page_room
answer_short k a p h = spoken_short k (answer_number a) p h (answer_small a)

-- line 1

module _ {row : Row} {a : Answer} (f : FirstAnswered row a) where
  pub number_is : a.number ≡ first_number f.says
  number_is = ap (λ (x : Answer). x.number) f.is

  pub first_opened : {k : ℕ} {out : List ℕ} → a.number ≡ 0 → FirstTaken k row out (Going a.sheet) 0 out
  first_opened {out = out} z =
      answered (going (first_record f.says)) 0 (opens f.opens (sym number_is ∙ z)) (ap (λ (x : Answer). Going x.sheet) f.is) refl (wrote_none out 0) (omega arith)

  pub first_shut : {k w : ℕ} {out later : List ℕ} → Wrote out 0 (refusal k a.number) w later → w ≤ page_room → (a.number ≡ 0 → ⊥) → FirstTaken k row out (Over a.sheet) w later
  first_shut {k} p short n =
      record {
        state = over (first_record f.says);
        said = refusal k (first_number f.says);
        step = shut f.opens (λ y. n (number_is ∙ y));
        is = ap (λ (x : Answer). Over x.sheet) f.is;
        laid = wrote_text (ap (refusal k) number_is) p;
        short = short;
      }

-- a later line

module _ {sheet : Sheet} {r : Record} (of : OfRecord sheet r) where
  module _ {row : Row} {o : Order} (asked : RowAsks sheet.marks row o) where
    asks : {p : Order} → o ≡ p → RowAsks r.marks row p
    asks e = subst (RowAsks r.marks row) e (subst (λ (s : Sheet). RowAsks s.marks row o) of.is asked)

    module _ {k w : ℕ} {out later : List ℕ} where
      module _ {d : Desk} {answer : Told (Unit {0}) Refusal} (laid : Wrote out 0 (spoken k (answer_number answer)) w later) (short : w ≤ page_room) where
        pub later_made : {c : Call} {f : Option Form} {a : Told (Unit {0}) Refusal} {s : Sheet} → o ≡ Make c f → answer_of a s ≡ did_of most_marks sheet c → answer ≡ a
            → d ≡ Going s → LaterTaken k r row out d w later
        later_made {c} {a = a} {s = s} q did same is =
            let told : answer_of a s ≡ record { number = number_of r c; sheet = sheet_of entries (after r c) } =
            did ∙ ap (λ (x : Sheet). did_of most_marks x c) of.is ∙ did_kept r of.good c in
            answered (going (after r c)) (number_of r c) (made (asks q)) (is ∙ ap Going (sym (answer_sheet a s) ∙ ap (λ (x : Answer). x.sheet) told))
            (ap answer_number same ∙ sym (answer_told a s) ∙ ap (λ (x : Answer). x.number) told) laid short

        pub later_unread : o ≡ NotRead → answer ≡ Err (Unreadable 0) → d ≡ Going sheet → LaterTaken k r row out d w later
        later_unread q same is = answered (going r) 10 (unread (asks q)) (is ∙ ap Going of.is) (ap answer_number same) laid short

      pub later_ended : o ≡ End → Printed r out 0 w later → LaterTaken k r row out (Over sheet) w later
      later_ended q p = record { state = over r; said = p.text; step = ended (asks q) p.result; is = ap Over of.is; laid = p.wrote; short = omega (arith, p.short) }

-- by the stage

sheet_held : Sheet → Desk → Sheet
sheet_held other Opening = other
sheet_held other (Going sheet) = sheet
sheet_held other (Over sheet) = other

stage_no : Desk → ℕ
stage_no Opening = 0
stage_no (Going sheet) = 1
stage_no (Over sheet) = 2

other_stage : {Q : Type 0} {d e : Desk} → d ≡ e → (stage_no d ≡ stage_no e → ⊥) → Q
other_stage q n = absurd (n (ap stage_no q))

-- a desk that goes on holds the sheet of its state's record
pub of_record : {d : Desk} {sheet : Sheet} → d ≡ Going sheet → (s : State) → In d s → (r : Record) × (s ≡ going r) × OfRecord sheet r
unfolding sheet_held stage_no
of_record {sheet = sheet} q (going r) i = (r, refl, record { good = i.can; is = ap (sheet_held sheet) (sym q ∙ i.is) })
of_record q first i = other_stage (sym q ∙ i.is) (λ z. omega arith)
of_record q (over r) i = other_stage (sym q ∙ i.is) (λ z. omega arith)

pub sheet_of_record : {d : Desk} {sheet : Sheet} → d ≡ Going sheet → Runs kind d → SheetOfRecord sheet
sheet_of_record q runs = let w = of_record q runs.0 runs.1 in (w.0, w.2)

module _ {d after : Desk} {k w : ℕ} {row : Row} {out later : List ℕ} where
  taken : (s : State) → In d s → SteppedBy holdings desk_of k s row out after w later → Taken kind k s row out after w later
  taken s i e = record { by = e; can = good_step e.step i.can }

  pub step_opening : d ≡ Opening → FirstTaken k row out after w later → Steps kind d k row out after w later
  unfolding stage_no
  step_opening q e first i = taken first i e
  step_opening q e (going r) i = other_stage (sym q ∙ i.is) (λ z. omega arith)
  step_opening q e (over r) i = other_stage (sym q ∙ i.is) (λ z. omega arith)

  pub step_going : {sheet : Sheet} → d ≡ Going sheet → ((r : Record) → OfRecord sheet r → LaterTaken k r row out after w later) → Steps kind d k row out after w later
  step_going q e s i =
      let at = of_record q s i in taken s i (subst (λ (t : State). SteppedBy holdings desk_of k t row out after w later) (sym at.1) (e at.0 at.2))

pub step_over : {d : Desk} {sheet : Sheet} {k : ℕ} {row : Row} {out : List ℕ} → d ≡ Over sheet → Steps kind d k row out d 0 out
unfolding stage_no
step_over {out = out} q (over r) i =
    taken (over r) i (record { state = over r; said = []; step = Step.silent; is = i.is; laid = wrote_none out 0; short = omega arith })
step_over q first i = other_stage (sym q ∙ i.is) (λ z. omega arith)
step_over q (going r) i = other_stage (sym q ∙ i.is) (λ z. omega arith)

pub silent : SilentWhenOver kind
silent first e = clash e refl
silent (going r) e = clash e refl
silent (over r) e = record { step = λ n row. (over r, Step.silent, refl); stop = Stop.silent }

-- the end of the input

module _ {d : Desk} {out : List ℕ} {at : ℕ} where
  pub stop_opening : d ≡ Opening → Stops kind d out at at out
  unfolding stage_no
  stop_opening q first i = record { said = []; stop = Stop.empty; laid = wrote_none out at }
  stop_opening q (going r) i = other_stage (sym q ∙ i.is) (λ z. omega arith)
  stop_opening q (over r) i = other_stage (sym q ∙ i.is) (λ z. omega arith)

  pub stop_going : {later : List ℕ} {w : ℕ} {sheet : Sheet} → d ≡ Going sheet → ((r : Record) → OfRecord sheet r → Printed r out at w later)
      → Stops kind d out at w later
  stop_going {later} {w = n} q p s i =
      let w = of_record q s i in
      let t = p w.0 w.2 in
      subst (λ (x : State). StoppedBy holdings x out at n later) (sym w.1) (record { said = t.text; stop = Stop.result t.result; laid = t.wrote })

  pub stop_over : {sheet : Sheet} → d ≡ Over sheet → Stops kind d out at at out
  unfolding stage_no
  stop_over q (over r) i = record { said = []; stop = Stop.silent; laid = wrote_none out at }
  stop_over q first i = other_stage (sym q ∙ i.is) (λ z. omega arith)
  stop_over q (going r) i = other_stage (sym q ∙ i.is) (λ z. omega arith)

-- NO TWO RETURNS of `step` and of `stop`

pub step_settled : {k : ℕ} {s : State} {row : Row} {out o₁ o₂ : List ℕ} {r q : Stepped} → SteppedTo k s row out r o₁ → SteppedTo k s row out q o₂ → (r ≡ q) × (o₁ ≡ o₂)
step_settled f g = let t = stepped_one one_answer f g in ((λ i. record { desk = t.0 i; wrote = t.1 i }), t.2)

pub stop_settled : {s : State} {out o₁ o₂ : List ℕ} {at r q : ℕ} → StoppedBy holdings s out at r o₁ → StoppedBy holdings s out at q o₂ → (r ≡ q) × (o₁ ≡ o₂)
stop_settled f g = stopped_one one_answer f g
