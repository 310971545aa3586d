-- 5 where the area is too short; else the list is laid.
use mathlib.Core.Path.{sym, ap, ◌∙◌}
use mathlib.Core.Bool.{Bool}
use Prim.Native.Nat.{ℕ}
use native.Mathlib.Omega.{arith}
use Rattle.listing.specs.Listing.Listed.{short, given}
use Rattle.listing.proofs.Given.{laid_told}
use Rattle.sheet.specs.Sound.{record_of}
use Rattle.sheet.proofs.Told.{in-not-out}
use Rattle.listing.proofs.list_sound.Goals as goal

pub returns-then-area-most_lines : goal.returns-then-area-most_lines
returns-then-area-most_lines c = short c.requires (omega arith)

pub lay-k-requires-clause-within : goal.lay-k-requires-clause-within
lay-k-requires-clause-within c k h =
    let told = c.class_bits-told.ensures in
    let sheet = c.args.sheet.now in
    ap (λ (f : ℕ → Bool). f k) (told.room sheet.profile sheet.held)
    ∙ in-not-out (record_of sheet) k (sym (ap (λ (f : ℕ → Bool). f k) (told.need sheet.profile sheet.held)) ∙ h)

pub returns : goal.returns
returns c =
    let told = c.class_bits-told.ensures in
    let sheet = c.args.sheet.now in
    given c.requires (omega arith) (laid_told (told.need sheet.profile sheet.held) (told.room sheet.profile sheet.held) c.lay-k.ensures)
