-- Five texts, one behind the other; a number has at most 20 digits.
use Rattle.std.proofs.Common.{arith}
use Rattle.print.proofs.Digits.{number_room}
use Rattle.print.proofs.Pages.{puts_then}
use Rattle.machine.proofs.said.put_both.Goals as goal

pub put_number-requires : goal.put_number-requires
put_number-requires c = omega (arith, number_room c.args.x (omega arith))

pub put-requires-2 : goal.put-requires-2
put-requires-2 c = omega (arith, number_room c.args.x (omega arith))

pub put_number-requires-2 : goal.put_number-requires-2
put_number-requires-2 c = omega (arith, number_room c.args.x (omega arith), number_room c.args.y (omega arith))

pub put_byte-requires : goal.put_byte-requires
put_byte-requires c = omega (arith, number_room c.args.x (omega arith), number_room c.args.y (omega arith))

pub returns : goal.returns
returns c = puts_then (puts_then (puts_then (puts_then c.put.ensures c.put_number.ensures) c.put-2.ensures) c.put_number-2.ensures) c.put_byte.ensures
