use Rattle.std.proofs.Common.{arith, ap}
use Rattle.std.proofs.lemmas.List.{take_all}
use Rattle.print.proofs.Digits.{pattern-length}
use Rattle.print.proofs.Pages.{puts_nothing, puts_text}
use Rattle.pla.specs.Writing.{cube_lines}
use Rattle.pla_writing.proofs.Laws.{line_has_room, line_put}
use Rattle.pla_writing.proofs.put_cubes.Goals as goal

pub loop-b-init : goal.loop-b-init
unfolding cube_lines
loop-b-init c = puts_nothing _

pub put_pattern-requires : goal.put_pattern-requires
put_pattern-requires c = let l = c.loop-b in omega (arith, line_has_room c.args.m c.args.list.now l.b-index (omega arith), l.invariant.len, l.invariant.long)

pub put-requires : goal.put-requires
put-requires c =
    let l = c.loop-b in
    let p = c.put_pattern.ensures in
    omega (arith, line_has_room c.args.m c.args.list.now l.b-index (omega arith), l.invariant.len, l.invariant.long, p.len, p.long, pattern-length c.args.m c.from.result)

pub loop-b-preserved : goal.loop-b-preserved
loop-b-preserved c = let l = c.loop-b in line_put c.args.m c.args.list.now l.b-index (omega arith) c.from.ensures l.invariant c.put_pattern.ensures c.put.ensures

pub returns : goal.returns
returns c = let l = c.loop-b in puts_text (ap (cube_lines c.args.m) (take_all l.b-index c.args.list.now (omega arith))) l.invariant
