-- What the page has, the area has.
use Rattle.std.proofs.Common.{arith, rules}
use Rattle.machine.proofs.Laid.{refusal-length}
use Rattle.print.proofs.Pages.{wrote_on}
use Rattle.machine.proofs.said.refusal.Goals as goal

pub returns : goal.returns
returns c = wrote_on c.put_refusal.ensures c.new-page.ensures.area c.new-page.ensures.empty (omega (arith, refusal-length c.args.number c.args.answer (omega arith) (omega arith))) (search rules)
