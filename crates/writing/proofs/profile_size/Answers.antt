-- By its groups.
use Rattle.std.proofs.Common.{sym, ap, length}
use Rattle.writing.proofs.Groups.{one_text, two_text}
use Rattle.writing.proofs.profile_size.Goals as goal

pub returns-in-One-clause-size : goal.returns-in-One-clause-size
returns-in-One-clause-size c = sym (ap length (one_text _ c.in-One.is))

pub returns-in-Two-clause-size : goal.returns-in-Two-clause-size
returns-in-Two-clause-size c = sym (ap length (two_text _ _ c.in-Two.is))
