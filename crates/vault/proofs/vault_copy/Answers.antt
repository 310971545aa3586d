-- The bytes hold a sound sheet, which is written again, or none.
use Rattle.stored.specs.declared.Layout.TheVariants.{Today}
use Rattle.lent.proofs.Replies.{holds_ready, changes_read}
use Rattle.vault.proofs.vault_copy.Goals as goal

pub written-requires : goal.written-requires
written-requires c = holds_ready Today _ (λ i. (c.type_inv.sheet i).fits) c.read.ensures

pub returns : goal.returns
returns c = rw c.into.ensures (changes_read c.read.ensures c.written.ensures)
