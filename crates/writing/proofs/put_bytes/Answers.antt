use Rattle.std.proofs.Common.{rules}
use Rattle.print.proofs.Pages.{puts_text}
use Rattle.writing.proofs.Laws.{low_bytes}
use Rattle.writing.proofs.put_bytes.Goals as goal

pub returns : goal.returns
returns c = puts_text (low_bytes c.args.k c.args.n c.requires.few) (search rules)
