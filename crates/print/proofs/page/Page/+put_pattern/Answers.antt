use Rattle.std.proofs.Common.{◌-◌, ◌/◌, arith}
use Rattle.print.proofs.Digits.{pattern-length}
use Rattle.print.proofs.Writing.{pattern_none, pattern_lowest}
use Rattle.print.proofs.Pages.{puts_nothing, puts_then, puts_text}
use Rattle.print.proofs.page.Page.+put_pattern.Goals as goal

pub returns-then-m-eq0 : goal.returns-then-m-eq0
returns-then-m-eq0 t c = puts_text (pattern_none c.args.m c.args.b (omega arith)) (puts_nothing _)

pub put_byte-requires : goal.put_byte-requires
put_byte-requires t c = omega (arith, pattern-length (c.args.m - 1) (c.args.b / 3))

pub returns : goal.returns
returns t c = puts_text (pattern_lowest c.args.m c.args.b c.sign.ensures (omega arith)) (puts_then c.put_pattern.ensures c.put_byte.ensures)
