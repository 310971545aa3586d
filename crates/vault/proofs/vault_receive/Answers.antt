use Rattle.vault.proofs.vault_receive.Goals as goal

pub returns : goal.returns
returns c = rw c.into.ensures c.change.ensures
