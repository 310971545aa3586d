-- By the stage, and then by what the line asks for: a call to make, nothing that can be read, or the end.
use native.Mathlib.Omega.{arith}
use Rattle.desk.proofs.Results.{sheet_marks}
use Rattle.desk.proofs.Steps.{sheet_of_record, step_opening, step_going, step_over, later_made, later_unread, later_ended, answer_short}
use Rattle.desk.proofs.stages.DeskProgram.step.Goals as goal
use Rattle.desk.proofs.stages.DeskProgram.step.Goals.{in-Make, in-Unreadable}

pub returns-in-Opening : goal.returns-in-Opening
returns-in-Opening c = step_opening c.in-Opening.is c.first_line.ensures

pub order_of-requires : goal.order_of-requires
order_of-requires c = omega (arith, sheet_marks (sheet_of_record c.in-Going.is c.requires.runs).1)

pub returns-in-End : goal.returns-in-End
returns-in-End c = step_going c.in-Going.is (λ r of. later_ended of c.order_of.ensures c.in-End.is (c.result-wrote.ensures r of))

pub returns-after-order_of : goal.returns-after-order_of
returns-after-order_of c =
    let short = answer_short c.args.line.now.number c.match-order_of.answer c.spoken.ensures (omega arith) in
    step_going c.in-Going.is (λ r of. elim c.match-order_of.branch [
      | in-Make w ↦ later_made of c.order_of.ensures c.spoken.ensures short w.in-Make.is w.did-answer.ensures.answer w.answer-is w.self-is
      | in-Unreadable w ↦ later_unread of c.order_of.ensures c.spoken.ensures short w.in-Unreadable.is w.answer-is w.self-is
    ])

pub returns-in-Over : goal.returns-in-Over
returns-in-Over c = step_over c.in-Over.is
