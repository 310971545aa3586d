-- The bits are those of the class that the counts tell, and of what is not out.
use Rattle.checking.proofs.Found.{checked_found}
use Rattle.checking.proofs.Faults.{judged_told}
use Rattle.checking.proofs.check_sound.Goals as goal

pub returns : goal.returns
returns c =
    let told = c.class_bits-told.ensures in
    let sheet = c.args.sheet.now in
    rw c.err.ensures.value (checked_found _ c.requires (judged_told (told.need sheet.profile sheet.held) (told.room sheet.profile sheet.held) c.judged.ensures))
