-- The three pieces of `clock`, one behind the other.
use Rattle.std.proofs.Common.{arith}
use Rattle.print.proofs.Digits.{clock-length, clock_parts}
use Rattle.print.proofs.Pages.{puts_then, puts_text}
use Rattle.print.proofs.page.Page.put_time.Goals as goal

pub put_number-requires : goal.put_number-requires
put_number-requires c = omega (arith, clock-length c.args.seconds)

pub put_byte-requires : goal.put_byte-requires
put_byte-requires c = omega (arith, clock-length c.args.seconds)

pub put_two-requires-clause-room : goal.put_two-requires-clause-room
put_two-requires-clause-room c = omega (arith, clock-length c.args.seconds)

pub returns : goal.returns
returns c = puts_text (clock_parts c.args.seconds) (puts_then (puts_then c.put_number.ensures c.put_byte.ensures) c.put_two.ensures)
