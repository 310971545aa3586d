-- What an opening answers, test by test.
use Prim.Native.Nat.{ℕ}
use mathlib.Core.Path.{◌≡◌}
use Rattle.sheet.specs.Told.{Answer}
use Rattle.sheet.specs.Answers.{open_of, open_under_of}
use Rattle.sheet.specs.Record.{sheet_of, opened_under, opened}
use Rattle.sheet.specs.Limits.{marks_ok}
use mathlib.Core.Bool.{true, false}
use mathlib.Core.List.{List}
use Rattle.profiles.specs.Profiles.{profile_of, names_ok}

pub open_done : (most n m : ℕ) → marks_ok most m ≡ true → ◌≡◌ {A = Answer} (record { number = 0; sheet = sheet_of n (opened m) }) (open_of most n m)
open_done most n m e = rw e

pub open_refused : (most n m : ℕ) → marks_ok most m ≡ false → ◌≡◌ {A = Answer} (record { number = 1; sheet = sheet_of n (opened 1) }) (open_of most n m)
open_refused most n m e = rw e

-- opening under a profile

module _ (most n m : ℕ) (groups : List ℕ) where
  pub open_under_refused : marks_ok most m ≡ false → ◌≡◌ {A = Answer} (record { number = 1; sheet = sheet_of n (opened 1) }) (open_under_of most n m groups)
  open_under_refused e = rw e

  module _ (marks : marks_ok most m ≡ true) where
    pub open_under_faulty : names_ok m groups ≡ false → ◌≡◌ {A = Answer} (record { number = 13; sheet = sheet_of n (opened 1) }) (open_under_of most n m groups)
    open_under_faulty e = rw (marks, e)

    pub open_under_done : names_ok m groups ≡ true
        → ◌≡◌ {A = Answer} (record { number = 0; sheet = sheet_of n (opened_under m (profile_of groups)) }) (open_under_of most n m groups)
    open_under_done e = rw (marks, e)
