-- What a desk session prints (01, 'Desk program'): which output bytes belong to which input bytes. It is told line by line: what a line leads to and
-- prints at once (`Step`), and what the end of the input prints (`Stop`); machine/specs/Machine puts these together. Calls are made on the record of
-- marks, standings and times; the printed list is the first shortest one.
use Rattle.std.specs.Prelude.{Option, Some, None}
use Rattle.std.specs.Prelude.{ℕ, ◌≡◌, cond, List, [], ◌∷◌, ◌++◌, length}
use Rattle.boxes.specs.Boxes.{sum_in}
use Rattle.lists.specs.Lists.{FirstShortest}
use Rattle.ground.specs.Texts.{ascii}
use Rattle.print.specs.Texts.{decimal, clock, pattern}
use Rattle.sheet.specs.Limits.{most_marks, marks_ok}
use Rattle.sheet.specs.Record.{Record, opened, in_class, not_out}
use Rattle.sheet.specs.Sound.{size_of}
use Rattle.changes.specs.declared.Call.{Call}
use Rattle.totals.specs.Totals.{total_of}
use Rattle.histories.specs.Histories.{number_of, after}
use Rattle.machine.specs.Rows.{Row}
use Rattle.machine.specs.Machine.{Machine, Output, refusal, spoken}
use Rattle.times.specs.declared.Form.{Form}
use Rattle.lines.specs.declared.Order.TheVariants.{Make, End, Unreadable}
use Rattle.lines.specs.Words.{RowAsks, RowOpens}

-- texts

-- class size and number of lines
unfoldable pub heads : ℕ → ℕ → List ℕ
heads size count = ascii "class " ++ decimal size ++ ascii "\nlines " ++ decimal count ++ ascii "\n"

-- the pattern and the time of a line of the list
unfoldable pub box_line : ℕ → ℕ → ℕ → List ℕ
box_line m b seconds = pattern m b ++ ascii " " ++ clock seconds ++ ascii "\n"

-- the lines in list order
unfoldable pub box_lines : ℕ → (ℕ → ℕ) → List ℕ → List ℕ
box_lines m seconds [] = []
box_lines m seconds (b ∷ l) = box_line m b (seconds b) ++ box_lines m seconds l

unfoldable pub last_line : ℕ → List ℕ
last_line seconds = ascii "total " ++ clock seconds ++ ascii "\n"

-- class size, number of lines, each line's pattern and time, class total: a line's time is the sum over its box, the total the sum over the class
unfoldable pub page : Record → List ℕ → List ℕ
page r list =
    heads (size_of r.marks (in_class r)) (length list) ++ box_lines r.marks (λ b. sum_in r.marks b r.times) list ++ last_line (total_of r)

-- the result: the page of the first shortest list of the class
pub record Result (r : Record) (text : List ℕ) : Type 0 where
  pub list : List ℕ
  pub first : FirstShortest r.marks (in_class r) (not_out r) list
  pub is : text ≡ page r list

-- lines

-- line 1: 10 for what isn't `marks` and one digit, 1 for marks not 1 to 5; and the record that it opens
abbrev pub first_number : Option ℕ → ℕ
first_number (Some n) = cond (marks_ok most_marks n) 0 1
first_number None = 10

abbrev pub first_record : Option ℕ → Record
first_record (Some n) = cond (marks_ok most_marks n) (opened n) (opened 1)
first_record None = opened 1

-- where a session stands: in front of line 1, behind it with a record, or over with the record that it ended with
pub data State : Type 0 where
  first : State
  going : Record → State
  over : Record → State

-- line k: the state behind it, and what is printed at once
pub data Step (k : ℕ) : State → Row → State → List ℕ → Type 0 where
  -- line 1 opens a sheet; if it is refused nothing else is printed
  opens : {row : Row} {f : Option ℕ} → RowOpens row f → first_number f ≡ 0 → Step k first row (going (first_record f)) []
  shut : {row : Row} {f : Option ℕ} → RowOpens row f → (first_number f ≡ 0 → ⊥) → Step k first row (over (first_record f)) (refusal k (first_number f))
  -- a later line makes a call, cannot be read, or is `end`, and the result is printed
  made : {r : Record} {row : Row} {c : Call} {f : Option Form} → RowAsks r.marks row (Make c f) → Step k (going r) row (going (after r c)) (spoken k (number_of r c))
  unread : {r : Record} {row : Row} → RowAsks r.marks row Unreadable → Step k (going r) row (going r) (refusal k 10)
  ended : {r : Record} {row : Row} {text : List ℕ} → RowAsks r.marks row End → Result r text → Step k (going r) row (over r) text
  -- nothing is printed when it is over
  silent : {r : Record} {row : Row} → Step k (over r) row (over r) []

-- the end of the input: empty input prints nothing, else the result is printed
pub data Stop : State → List ℕ → Type 0 where
  empty : Stop first []
  result : {r : Record} {text : List ℕ} → Result r text → Stop (going r) text
  silent : {r : Record} → Stop (over r) []

abbrev pub holdings : Machine
holdings = record { State = State; start = first; step = Step; stop = Stop }

-- THE OUTPUT OF AN INPUT
abbrev pub Prints : List ℕ → List ℕ → Type 0
Prints input output = Output holdings input output
