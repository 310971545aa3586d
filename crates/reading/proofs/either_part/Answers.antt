-- 01's layout has no either section, and today's is read.
use Rattle.std.proofs.Common.{refl}
use Rattle.sheet.proofs.Opening.{combinations_fit, same-entry}
use Rattle.reading.proofs.either_part.Goals as goal

pub returns-in-First : goal.returns-in-First
returns-in-First c =
    rw c.in-First.is
    (refl, record { stays = refl; none = λ k l. same-entry c.args.form.now.marks 0 k c.args.form.now.few l; long = combinations_fit c.args.form.now.marks c.args.form.now.few })
