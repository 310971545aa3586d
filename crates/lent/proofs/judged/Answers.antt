-- The bytes hold a sound sheet, for which the list is judged, or none.
use Rattle.std.proofs.lemmas.Result.{err_from_is_err_and}
use Rattle.std.proofs.Common.{refl, Err}
use Rattle.stored.specs.declared.Layout.TheVariants.{Today}
use Rattle.sheet.proofs.Ready.{class_of_ready}
use Rattle.lent.specs.Entries.{no_verdict}
use Rattle.checking.specs.Answers.{verdict_on}
use Rattle.lent.specs.Entries.TellsAs.{unread, told}
use Rattle.lent.proofs.Replies.{holds, no_sheet, the_sheet, holds_ready}
use Rattle.lent.proofs.judged.Goals as goal

pub returns-in_err-s : goal.returns-in_err-s
returns-in_err-s c =
    let p = err_from_is_err_and c.from_residual.result c.from_residual.ensures.1 in
    rw (p.1, p.2) (unread (no_sheet no_verdict (λ e. verdict_on (Err e)) (λ x. refl) c.read-read.result _ c.in_err-s.ensures c.read-read.ensures))

pub check_sound-requires : goal.check_sound-requires
check_sound-requires c = class_of_ready (holds_ready Today _ (λ i. (c.type_inv.sheet i).fits) (the_sheet c.read-read.result _ c.in_ok-s.ensures c.read-read.ensures))

pub returns : goal.returns
returns c = told (holds _ (the_sheet c.read-read.result _ c.in_ok-s.ensures c.read-read.ensures)) c.check_sound.ensures
