-- By its groups.
use Rattle.std.proofs.Common.{sym, ap, length, arith}
use Rattle.print.proofs.Pages.{puts_text}
use Rattle.writing.proofs.Groups.{one_text, two_text}
use Rattle.writing.proofs.put_profile.Goals as goal

pub put-requires : goal.put-requires
put-requires c = omega (arith, c.requires.room, ap length (one_text _ c.in-One.is))

pub put-requires-in-Two : goal.put-requires-in-Two
put-requires-in-Two c = omega (arith, c.requires.room, ap length (two_text _ _ c.in-Two.is))

pub returns-in-One : goal.returns-in-One
returns-in-One c = puts_text (sym (one_text _ c.in-One.is)) c.put.ensures

pub returns-in-Two : goal.returns-in-Two
returns-in-Two c = puts_text (sym (two_text _ _ c.in-Two.is)) c.put-in-Two.ensures
