-- The count, and those that it counts.
use Rattle.std.proofs.Common.{arith, length-append}
use Rattle.stored.specs.Form.{bytes}
use Rattle.stored.proofs.Numbers.{bytes-length}
use Rattle.writing.specs.Sections.{list_in, count_in}
use Rattle.writing.proofs.put_section.Goals as goal

pub put_bytes-requires-clause-room : goal.put_bytes-requires-clause-room
put_bytes-requires-clause-room c =
    let has = c.args.has.now in
    omega (arith, c.requires.room, length-append (bytes 2 (count_in has)) (list_in c.args.section has), bytes-length 2 (count_in has))
