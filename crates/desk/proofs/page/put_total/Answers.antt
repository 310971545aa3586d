-- Three texts, one behind the other.
use native.Mathlib.Omega.{arith}
use Rattle.print.proofs.Digits.{time_room}
use Rattle.print.proofs.Pages.{puts_then}
use Rattle.desk.specs.Prints.{last_line}
use Rattle.desk.proofs.page.put_total.Goals as goal

pub put_time-requires : goal.put_time-requires
put_time-requires c = omega (arith, time_room c.args.seconds (omega arith))

pub put_byte-requires : goal.put_byte-requires
put_byte-requires c = omega (arith, time_room c.args.seconds (omega arith))

pub returns : goal.returns
unfolding last_line
returns c = puts_then (puts_then c.put.ensures c.put_time.ensures) c.put_byte.ensures
