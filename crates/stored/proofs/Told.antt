-- A refusal that is passed on tells what reading tells of the same number and place, with the sheet of an opened one-mark class.
use Rattle.std.proofs.Common.{◌≡◌, ℕ, refl}
use Rattle.std.specs.Prelude.{Err}
use Rattle.refusals.specs.Numbers.{number_of, place_of}
use Rattle.refusals.specs.declared.Refusal.{Refusal}
use Rattle.sheet.specs.Answers.{refused as refused_sheet}
use Rattle.stored.specs.Fields.{refused}
use Rattle.stored.specs.Answers.{read_of}
use Rattle.stored.specs.Told.{read_as}

pub refused_told : (n : ℕ) (e : Refusal) → read_as (Err (refused_sheet n e)) ≡ read_of n (refused (number_of e) (place_of e))
refused_told n e = refl
