-- What `itoa` writes is the number in decimal.
use Rattle.std.proofs.Common.{length, arith, ap, ◌∙◌}
use Rattle.print.proofs.Decimals.{decimal_is}
use Rattle.print.proofs.Pages.{puts_text}
use Rattle.print.proofs.page.Page.put_number.Goals as goal

pub put-requires : goal.put-requires
put-requires c = omega (arith, ap length (c.as_bytes.ensures.value ∙ c.format.ensures.text ∙ decimal_is c.args.n (omega arith)))

pub returns : goal.returns
returns c = puts_text (c.as_bytes.ensures.value ∙ c.format.ensures.text ∙ decimal_is c.args.n (omega arith)) c.put.ensures
