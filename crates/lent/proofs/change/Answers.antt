-- The bytes hold a sound sheet, which the call keeps sound, or none.
use mathlib.Core.Path.{sym, ap, subst}
use Prim.Native.Nat.{ℕ}
use Rattle.std.proofs.lemmas.Result.{err_from_is_err_and}
use Rattle.stored.specs.declared.Layout.TheVariants.{Today}
use Rattle.sheet.specs.Limits.{most_marks}
use Rattle.sheet.specs.Sound.{Ready}
use Rattle.sheet.specs.Told.{Answer, value_of}
use Rattle.stored.specs.Answers.{Writes}
use Rattle.changes.specs.Calls.{did_of}
use Rattle.changes.proofs.Keeps.{ready_kept}
use Rattle.lent.specs.Entries.{no_reply}
use Rattle.lent.specs.Entries.ChangesBy.{unread, called}
use Rattle.lent.proofs.Replies.{holds, holds_none, holds_long, holds_ready, put_written, put_refused, did_no_ten}
use Rattle.lent.proofs.change.Goals as goal

abbrev number : Answer → ℕ
number a = a.number

pub returns-in_err-s : goal.returns-in_err-s
returns-in_err-s c =
    let p = err_from_is_err_and c.from_residual.result c.from_residual.ensures.1 in
    rw (p.1, p.2) (unread (holds_none no_reply _ c.in_err-s.ensures))

pub returns-in_err-did : goal.returns-in_err-did
returns-in_err-did c =
    let p = err_from_is_err_and c.from_residual-in_err-did.result c.from_residual-in_err-did.ensures.1 in
    let s = c.in_ok-s.s in
    let k = c.args.call in
    rw (p.1, p.2) (called (holds s c.in_ok-s.ensures) (put_refused (did_of most_marks s k) c.in_err-did.field-0.0 (ap number c.in_err-did.ensures.answer) (did_no_ten s k)))

pub write_sound-requires : goal.write_sound-requires
write_sound-requires c =
    subst (λ (a : Answer). Ready most_marks a.sheet) (sym c.in_ok-did.ensures.answer)
    (ready_kept _ (holds_long c.in_ok-s.ensures) c.args.call (holds_ready Today _ (λ i. (c.type_inv.sheet i).fits) c.in_ok-s.ensures))

pub returns : goal.returns
returns c =
    let s = c.in_ok-s.s in
    let done = c.in_ok-did.ensures.answer in
    called (holds s c.in_ok-s.ensures)
    (put_written (did_of most_marks s c.args.call) _ (sym (ap number done))
    (subst (λ (a : Answer). Writes most_marks a.sheet c.args.out.now (value_of c.write_sound.result) c.write_sound.new.out) done c.write_sound.ensures))
