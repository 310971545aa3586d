-- By the stage, and then by what the line asks for: a call on a day, a call without a date, nothing that can be read, or the end.
use mathlib.Core.Path.{ap, ◌∙◌}
use native.Mathlib.Omega.{arith}
use Rattle.year_lines.specs.declared.Slip.TheVariants.{Plain}
use Rattle.desk.proofs.Steps.{answer_short}
use Rattle.year.proofs.Steps.{goes_on, marks_few, step_naming, step_opening, step_going, step_over, later_dated, later_plain, later_unread, later_ended}
use Rattle.year.proofs.stages.YearProgram.step.Goals as goal
use Rattle.year.proofs.stages.YearProgram.step.Goals.{in-Dated, in-Plain-Make, in-Plain-Unreadable}

pub returns-in-Naming : goal.returns-in-Naming
returns-in-Naming c = step_naming c.in-Naming.is c.year_line.ensures

pub returns-in-Opening : goal.returns-in-Opening
returns-in-Opening c = step_opening c.in-Opening.is c.marks_line.ensures

pub slip_of-requires : goal.slip_of-requires
slip_of-requires c = omega (arith, marks_few (goes_on c.in-Going.is c.requires.runs).2)

pub returns-in-Plain-End : goal.returns-in-Plain-End
returns-in-Plain-End c =
    step_going c.in-Going.is (λ b h i. later_ended i c.slip_of.ensures (c.in-Plain-End.is ∙ ap Plain c.in-Plain-End.field-0-is) c.put_page-wrote.ensures)

pub returns-after-slip_of : goal.returns-after-slip_of
returns-after-slip_of c =
    let short = answer_short c.args.line.now.number c.match-slip_of.answer c.spoken.ensures (omega arith) in
    step_going c.in-Going.is (λ b h i. elim c.match-slip_of.branch [
      | in-Dated w ↦ later_dated i c.slip_of.ensures c.spoken.ensures short w.in-Dated.is w.on_day-answer.ensures w.answer-is w.self-is
      | in-Plain-Make w ↦
          later_plain i c.slip_of.ensures c.spoken.ensures short (w.in-Plain-Make.is ∙ ap Plain w.in-Plain-Make.field-0-is) w.undated-answer.ensures w.answer-is w.self-is
      | in-Plain-Unreadable w ↦
          later_unread i c.slip_of.ensures c.spoken.ensures short (w.in-Plain-Unreadable.is ∙ ap Plain w.in-Plain-Unreadable.field-0-is) w.answer-is w.self-is
    ])

pub returns-in-Over : goal.returns-in-Over
returns-in-Over c = step_over c.in-Over.is
