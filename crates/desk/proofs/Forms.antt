-- Line by line, a session whose running times are written in another form prints the same.
use Prim.Native.Nat.{ℕ}
use mathlib.Core.List.{List}
use Rattle.std.specs.Prelude.{Option}
use Rattle.times.specs.declared.Form.{Form}
use Rattle.sheet.specs.Record.{Record}
use Rattle.changes.specs.declared.Call.{Call}
use Rattle.histories.specs.Histories.{number_of, after}
use Rattle.machine.specs.Rows.{Row, whole, rows, SameBut}
use Rattle.machine.specs.Machine.{refusal, spoken}
use Rattle.machine.proofs.Outputs.{onward_but}
use Rattle.lines.specs.declared.Order.{Order}
use Rattle.lines.specs.declared.Order.TheVariants.{Make, End, Unreadable}
use Rattle.lines.specs.Words.{RowAsks, RowOpens}
use Rattle.lines.specs.Forms.{OtherForm}
use Rattle.lines.proofs.Forms.{SameCall, other_asked, other_opens}
use Rattle.desk.specs.Prints.{State, going, Step, opens, shut, made, unread, ended, holdings, Prints}

made_again : {k : ℕ} {r : Record} {row : Row} {c : Call} {f : Option Form} {q : Order} → SameCall (Make c f) q → RowAsks r.marks row q
    → Step k (going r) row (going (after r c)) (spoken k (number_of r c))
made_again SameCall.made w = made w

unread_again : {k : ℕ} {r : Record} {row : Row} {q : Order} → SameCall Unreadable q → RowAsks r.marks row q → Step k (going r) row (going r) (refusal k 10)
unread_again SameCall.unread w = unread w

no_end : {q : Order} → SameCall End q → ⊥
no_end = elim [ ]

step_again : {line other : List ℕ} → OtherForm line other → {k : ℕ} {s t : State} {now : List ℕ} → Step k s (whole line) t now → Step k s (whole other) t now
step_again o (opens (RowOpens.read w) e) = opens (RowOpens.read (other_opens o w)) e
step_again o (shut (RowOpens.read w) n) = shut (RowOpens.read (other_opens o w)) n
step_again o (made (RowAsks.read a)) = let w = other_asked o a in made_again w.2 (RowAsks.read w.1)
step_again o (unread (RowAsks.read a)) = let w = other_asked o a in unread_again w.2 (RowAsks.read w.1)
step_again o (ended (RowAsks.read a) x) = absurd (no_end (other_asked o a).2)
step_again o Step.silent = Step.silent

pub prints_again : (input other : List ℕ) {output : List ℕ} → SameBut OtherForm (rows input) (rows other) → Prints input output → Prints other output
prints_again input other q p = onward_but holdings OtherForm (λ k s t line again now o x. step_again o x) q p
