-- What opening gives is sound, and is written.
use Rattle.sheet.proofs.Opened.{open_ready}
use Rattle.lent.proofs.Replies.{opened_put, opened_ready, open_no_ten}
use Rattle.vault.proofs.vault_open.Goals as goal

pub written-requires : goal.written-requires
written-requires c = opened_ready c.«open».result _ c.«open».ensures (open_ready c.args.marks)

pub returns : goal.returns
returns c = rw c.into.ensures (opened_put c.«open».result _ c.«open».ensures (open_no_ten c.args.marks) c.written.ensures)
