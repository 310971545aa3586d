-- Nothing, or a byte and those behind it.
use Rattle.std.proofs.Common.{sym, ap, ap₂, arith, length}
use Rattle.print.proofs.Pages.{puts_nothing, puts_then, puts_text}
use Rattle.stored.specs.Form.{bytes}
use Rattle.stored.specs.Sections.{bytes_behind}
use Rattle.stored.proofs.Numbers.{bytes-length}
use Rattle.writing.proofs.Laws.{entry_none, entry_some}
use Rattle.writing.proofs.put_entry.Goals as goal

pub returns-then-x-eq0 : goal.returns-then-x-eq0
returns-then-x-eq0 c =
    let s = c.args in
    puts_text (sym (entry_none s.section s.c s.x (omega arith))) (puts_nothing s.page.now)

pub put_byte-requires : goal.put_byte-requires
put_byte-requires c =
    let s = c.args in
    omega (arith, c.requires.room, ap length (entry_some s.section s.c s.x (omega arith)), bytes-length (bytes_behind s.section) s.x)

pub put_bytes-requires-clause-room : goal.put_bytes-requires-clause-room
put_bytes-requires-clause-room c =
    let s = c.args in
    omega (arith, c.requires.room, ap length (entry_some s.section s.c s.x (omega arith)), bytes-length (bytes_behind s.section) s.x, c.put_byte.ensures.len, c.put_byte.ensures.long)

pub returns : goal.returns
returns c =
    let s = c.args in
    let behind = puts_text (ap₂ bytes c.bytes_behind.ensures.0 c.from.ensures) c.put_bytes.ensures in
    puts_text (sym (entry_some s.section s.c s.x (omega arith))) (puts_then c.put_byte.ensures behind)
