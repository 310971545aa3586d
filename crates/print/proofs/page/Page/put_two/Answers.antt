-- The two bytes are the two digits.
use Rattle.std.proofs.Common.{sym}
use Rattle.print.proofs.Digits.{two_digits}
use Rattle.print.proofs.Pages.{puts_text}
use Rattle.print.proofs.page.Page.put_two.Goals as goal

pub returns : goal.returns
returns c = puts_text (sym (two_digits c.args.n c.requires.below)) c.put.ensures
