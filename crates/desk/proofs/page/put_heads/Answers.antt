-- The pair of `class` and `lines`.
use Rattle.desk.specs.Prints.{heads}
use Rattle.desk.proofs.page.put_heads.Goals as goal

pub returns : goal.returns
unfolding heads
returns c = c.put_both.ensures
