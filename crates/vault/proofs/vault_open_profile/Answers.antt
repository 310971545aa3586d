-- What opening under a profile gives is sound, and is written.
use Rattle.sheet.proofs.Opened.{open_under_ready}
use Rattle.lent.proofs.Replies.{opened_put, opened_ready, open_under_no_ten}
use Rattle.vault.proofs.vault_open_profile.Goals as goal

pub written-requires : goal.written-requires
written-requires c = opened_ready c.open_under.result _ c.open_under.ensures (open_under_ready c.args.marks c.args.groups.now)

pub returns : goal.returns
returns c = rw c.into.ensures (opened_put c.open_under.result _ c.open_under.ensures (open_under_no_ten c.args.marks c.args.groups.now) c.written.ensures)
