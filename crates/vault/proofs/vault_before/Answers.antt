-- By what the comparison decides.
use Rattle.lent.proofs.Replies.{compared}
use Rattle.vault.proofs.vault_before.Goals as goal

pub returns : goal.returns
returns c = rw (c.from-2.ensures, c.from.ensures) (compared _ _ _ c.is_before.ensures)
