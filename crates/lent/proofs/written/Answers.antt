-- What was read is the sheet that is written, or is refused.
use mathlib.Core.Path.{refl, sym, ap, subst}
use Rattle.std.proofs.lemmas.Result.{err_from_is_err_and}
use Rattle.sheet.specs.Limits.{most_marks}
use Rattle.sheet.specs.Sound.{Ready}
use Rattle.stored.specs.Told.{Read, read_as}
use Rattle.lent.specs.Entries.{same}
use Rattle.lent.specs.Entries.ChangesBy.{unread, called}
use Rattle.lent.proofs.Replies.{holds, no_read, put_written}
use Rattle.lent.proofs.written.Goals as goal

pub returns-in_err-s : goal.returns-in_err-s
returns-in_err-s c =
    let p = err_from_is_err_and c.from_residual.result c.from_residual.ensures.1 in
    rw (p.1, p.2) (unread (no_read c.args.read _ c.in_err-s.ensures))

pub write_sound-requires : goal.write_sound-requires
write_sound-requires c = subst (λ (a : Read). Ready most_marks a.sheet) (ap read_as c.in_ok-s.ensures) c.requires

pub returns : goal.returns
returns c = called (holds _ (sym (ap read_as c.in_ok-s.ensures))) (put_written (same c.in_ok-s.s.now) _ refl c.write_sound.ensures)
