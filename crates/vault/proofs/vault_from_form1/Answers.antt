-- 01's form is read as a sound sheet, which is written, or is refused.
use Rattle.stored.specs.declared.Layout.TheVariants.{First}
use Rattle.lent.proofs.Replies.{holds_ready, changes_read}
use Rattle.vault.proofs.vault_from_form1.Goals as goal

pub written-requires : goal.written-requires
written-requires c = holds_ready First _ (λ i. (c.type_inv.old i).fits) c.read_first.ensures

pub returns : goal.returns
returns c = rw c.into.ensures (changes_read c.read_first.ensures c.written.ensures)
