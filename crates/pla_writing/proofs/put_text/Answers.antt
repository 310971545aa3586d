-- Seven pieces, one behind the other.
use Rattle.std.proofs.Common.{arith}
use Rattle.pla_writing.proofs.Laws.{text_length, text_put}
use Rattle.pla_writing.proofs.put_text.Goals as goal

pub put-requires : goal.put-requires
put-requires c = omega (arith, text_length c.args.m c.args.list.now)

pub put_number-requires : goal.put_number-requires
put_number-requires c = omega (arith, text_length c.args.m c.args.list.now)

pub put-requires-2 : goal.put-requires-2
put-requires-2 c = omega (arith, text_length c.args.m c.args.list.now)

pub put_number-requires-2 : goal.put_number-requires-2
put_number-requires-2 c = omega (arith, text_length c.args.m c.args.list.now)

pub put-requires-3 : goal.put-requires-3
put-requires-3 c = omega (arith, text_length c.args.m c.args.list.now)

pub put_cubes-requires : goal.put_cubes-requires
put_cubes-requires c = omega (arith, text_length c.args.m c.args.list.now)

pub put-requires-4 : goal.put-requires-4
put-requires-4 c = omega (arith, text_length c.args.m c.args.list.now)

pub returns : goal.returns
returns c =
    text_put c.args.m c.args.list.now c.put.ensures c.put_number.ensures c.put-2.ensures c.put_number-2.ensures c.put-3.ensures c.put_cubes.ensures
    c.put-4.ensures
