-- The bytes of a profile: its count in two, and each group of a sound sheet in one.
use Rattle.std.proofs.Common.{◌≡◌, ℕ, ◌^◌, ◌≤◌, ◌<◌, ap, true, [], ◌∷◌, arith}
use borrow.Author.Tests.{ltb-true}
use Rattle.ground.proofs.Cases.{and_left, and_right}
use Rattle.profiles.specs.Profiles.{group_ok, profile_ok}
use Rattle.profiles.specs.declared.Profile.{Profile}
use Rattle.profiles.specs.declared.Profile.TheVariants.{None, One, Two}
use Rattle.sheet.proofs.Opening.{combinations_fit}
use Rattle.stored.specs.Form.{bytes, profile_bytes}
use Rattle.writing.specs.Sections.{GroupsFit}

group_fits : (m g : ℕ) → m ≤ 5 → group_ok m g ≡ true → g < 256
unfolding group_ok
group_fits m g few e = omega (arith, ltb-true g (2 ^ m) (and_left _ _ e), combinations_fit m few)

pub groups_fit : (m : ℕ) (p : Profile) → m ≤ 5 → profile_ok m p ≡ true → GroupsFit p
groups_fit m None few e = tt
groups_fit m (One g) few e = group_fits m g few e
groups_fit m (Two g h) few e = (group_fits m g few (and_left _ _ e), group_fits m h few (and_left _ _ (and_right (group_ok m g) _ e)))

-- a profile of one group, and of two
module _ {p : Profile} where
  pub one_text : (g : ℕ) → p ≡ One g → profile_bytes p ≡ 1 ∷ 0 ∷ g ∷ []
  unfolding bytes
  one_text g e = ap profile_bytes e

  pub two_text : (g h : ℕ) → p ≡ Two g h → profile_bytes p ≡ 2 ∷ 0 ∷ g ∷ h ∷ []
  unfolding bytes
  two_text g h e = ap profile_bytes e
