use Rattle.std.proofs.Common.{arith, ap}
use Rattle.std.proofs.lemmas.List.{take_all}
use Rattle.print.proofs.Pages.{puts_nothing, puts_text}
use Rattle.tables.specs.Tables.{entry}
use Rattle.desk.specs.Prints.{box_lines}
use Rattle.desk.proofs.Texts.{line_length, line_put}
use Rattle.desk.proofs.page.put_lines.Goals as goal

pub loop-line-init : goal.loop-line-init
unfolding box_lines
loop-line-init c = (omega arith, puts_nothing _)

pub loop-line-preserved : goal.loop-line-preserved
loop-line-preserved c =
    let l = c.loop-line in
    let b = c.from-b.result in
    let short = line_length c.args.m b c.from.result c.requires.m_le_most_marks (omega arith) in (
      omega (arith, l.invariant.0, c.put_line.ensures.len, short),
      line_put c.args.m (entry c.args.held.now) c.args.list.now l.line-index (omega arith) c.from-b.ensures c.from.ensures l.invariant.1 c.put_line.ensures,
    )

pub returns : goal.returns
returns c =
    let l = c.loop-line in
    record { short = omega (arith, l.invariant.0); lines = puts_text (ap (box_lines c.args.m (entry c.args.held.now)) (take_all l.line-index c.args.list.now (omega arith))) l.invariant.1 }
