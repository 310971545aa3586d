-- What the functions of the list tell each other.
use Rattle.std.specs.Prelude.{ℕ, ◌^◌, ◌<◌, ◌≡◌, List}
use Rattle.sets.specs.Sets.{has}
use Rattle.profiles.specs.declared.Profile.{Profile}
use Rattle.sheet.specs.Record.{in_class, not_out, sheet_with}
use Rattle.sheet.specs.Sound.{record_of}
use Rattle.listing.specs.declared.Bits.{Bits}

-- the sets of what a list must cover and may cover, as the counts tell them, whatever the profile and whatever is held
pub record BitsOf (m : ℕ) (outside either : List ℕ) (b : Bits) : Type 0 where
  pub small : b.need < 2 ^ (2 ^ m)
  pub need : (p : Profile) (held : List ℕ) → has b.need ≡ in_class (record_of (sheet_with m p outside either held))
  pub room : (p : Profile) (held : List ℕ) → has b.room ≡ not_out (record_of (sheet_with m p outside either held))
