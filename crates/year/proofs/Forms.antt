-- Line by line, a session whose running times are written in another form prints the same.
use Prim.Native.Nat.{ℕ}
use mathlib.Core.Bool.{Bool, true, false}
use mathlib.Core.List.{List}
use Rattle.std.specs.Prelude.{Option}
use Rattle.times.specs.declared.Form.{Form}
use Rattle.changes.specs.declared.Call.{Call}
use Rattle.dates.specs.declared.date.Date.{Date}
use Rattle.machine.specs.Rows.{Row, whole, rows, SameBut}
use Rattle.machine.specs.Machine.{refusal, spoken}
use Rattle.machine.proofs.Outputs.{onward_but}
use Rattle.lines.specs.Words.{RowOpens}
use Rattle.lines.specs.declared.Order.{Order}
use Rattle.lines.specs.declared.Order.TheVariants.{Make, End, Unreadable}
use Rattle.lines.specs.Forms.{OtherForm}
use Rattle.lines.proofs.Forms.{SameCall, other_opens}
use Rattle.year_lines.specs.declared.Slip.{Slip}
use Rattle.year_lines.specs.declared.Slip.TheVariants.{Dated, Plain}
use Rattle.year_lines.specs.Slips.{RowNames, RowAsks}
use Rattle.year_lines.proofs.Forms.{SameSlip, other_slip, other_names}
use Rattle.bookings.specs.Bookings.{on, undated, History, booking_number, after_booking}
use Rattle.year.specs.Prints.{State, going, Step, names, nameless, opens, shut, stock, late, dated, unread, ended, months, Prints}

module _ {k : ℕ} {h : History} {row : Row} where
  stock_again : {c : Call} {f : Option Form} {r : Slip} → SameSlip (Plain (Make c f)) r → RowAsks h.marks row r
      → Step k (going false h) row (going false (after_booking h (undated c))) (spoken k (booking_number h (undated c)))
  stock_again (SameSlip.plain SameCall.made) w = stock w

  late_again : {c : Call} {f : Option Form} {r : Slip} → SameSlip (Plain (Make c f)) r → RowAsks h.marks row r → Step k (going true h) row (going true h) (refusal k 10)
  late_again (SameSlip.plain SameCall.made) w = late w

  dated_again : {b : Bool} {d : Date} {c : Call} {f : Option Form} {r : Slip} → SameSlip (Dated d c f) r → RowAsks h.marks row r
      → Step k (going b h) row (going true (after_booking h (on d c))) (spoken k (booking_number h (on d c)))
  dated_again SameSlip.dated w = dated w

  unread_again : {b : Bool} {r : Slip} → SameSlip (Plain Unreadable) r → RowAsks h.marks row r → Step k (going b h) row (going b h) (refusal k 10)
  unread_again (SameSlip.plain SameCall.unread) w = unread w

no_end_call : {q : Order} → SameCall End q → ⊥
no_end_call = elim [ ]

no_end : {r : Slip} → SameSlip (Plain End) r → ⊥
no_end (SameSlip.plain c) = no_end_call c

step_again : {line other : List ℕ} → OtherForm line other → {k : ℕ} {s t : State} {now : List ℕ} → Step k s (whole line) t now → Step k s (whole other) t now
step_again o (names (RowNames.read w)) = names (RowNames.read (other_names o w))
step_again o (nameless (RowNames.read w)) = nameless (RowNames.read (other_names o w))
step_again o (opens (RowOpens.read w) e) = opens (RowOpens.read (other_opens o w)) e
step_again o (shut (RowOpens.read w) n) = shut (RowOpens.read (other_opens o w)) n
step_again o (stock (RowAsks.read a)) = let w = other_slip o a in stock_again w.2 (RowAsks.read w.1)
step_again o (late (RowAsks.read a)) = let w = other_slip o a in late_again w.2 (RowAsks.read w.1)
step_again o (dated (RowAsks.read a)) = let w = other_slip o a in dated_again w.2 (RowAsks.read w.1)
step_again o (unread (RowAsks.read a)) = let w = other_slip o a in unread_again w.2 (RowAsks.read w.1)
step_again o (ended (RowAsks.read a)) = absurd (no_end (other_slip o a).2)
step_again o Step.silent = Step.silent

pub prints_again : (input other : List ℕ) {output : List ℕ} → SameBut OtherForm (rows input) (rows other) → Prints input output → Prints other output
prints_again input other q p = onward_but months OtherForm (λ k s t line again now o x. step_again o x) q p
