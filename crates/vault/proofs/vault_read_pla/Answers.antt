-- A PLA text is read as a sound sheet, which is written, or is refused.
use native.Mathlib.Omega.{arith}
use Rattle.sheet.specs.Limits.{most_marks, entries}
use Rattle.pla.proofs.Sound.{reads_pla_sound}
use Rattle.lent.proofs.Replies.{changes_read}
use Rattle.vault.proofs.vault_read_pla.Goals as goal

pub written-requires : goal.written-requires
written-requires c = reads_pla_sound most_marks entries (omega arith) (omega arith) c.read.ensures

pub returns : goal.returns
returns c = rw c.into.ensures (changes_read c.read.ensures c.written.ensures)
