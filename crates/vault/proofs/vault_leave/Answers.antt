use Rattle.vault.proofs.vault_leave.Goals as goal

pub returns : goal.returns
returns c = rw c.into.ensures c.change.ensures
