-- CARRIER PROFILES (02, Q-7). A group of marks is a number with a bit for each of its marks, as a combination is of the marks that are on.
use Rattle.std.specs.Prelude.{ℕ, zero, suc, ◌+◌, ◌*◌, ◌/◌, ◌%◌, ◌^◌, Bool, true, false, not, ◌&&◌, ◌||◌, List, [], ◌∷◌, eqb, leb, ltb, length}
use Rattle.profiles.specs.declared.Profile.{Profile}
use Rattle.profiles.specs.declared.Profile.TheVariants.{None, One, Two}

-- how many of the first m marks are in both
unfoldable pub common : ℕ → ℕ → ℕ → ℕ
common zero a b = 0
common (suc m) a b = common m (a / 2) (b / 2) + (a % 2) * (b % 2)

-- a group of a sheet of m marks: no mark that is not below m, and at least two
unfoldable pub group_ok : ℕ → ℕ → Bool
group_ok m g = ltb g (2 ^ m) && leb 2 (common m g g)

-- a group that may stand behind those of a profile: there are at most two, and no mark is named twice
abbrev pub may_follow : ℕ → Profile → ℕ → Bool
may_follow m None g = group_ok m g
may_follow m (One h) g = group_ok m g && eqb (common m h g) 0
may_follow m (Two h i) g = false

-- the profile with that group
abbrev pub followed : Profile → ℕ → Profile
followed None g = One g
followed (One h) g = Two h g
followed (Two h i) g = Two h i

-- a profile that is not faulty; a sheet may have none
abbrev pub profile_ok : ℕ → Profile → Bool
profile_ok m None = true
profile_ok m (One g) = may_follow m None g
profile_ok m (Two g h) = may_follow m None g && may_follow m (One g) h

-- exactly one mark of the group is on
unfoldable pub one_on : ℕ → ℕ → ℕ → Bool
one_on m g c = eqb (common m g c) 1

-- the combination breaks the profile
abbrev pub breaks : ℕ → Profile → ℕ → Bool
breaks m None c = false
breaks m (One g) c = not (one_on m g c)
breaks m (Two g h) c = not (one_on m g c) || not (one_on m h c)

-- how it stands is settled by the profile, which is not faulty
abbrev pub settles : ℕ → Profile → ℕ → Bool
settles m p c = breaks m p c && profile_ok m p

-- what a list of groups names: a profile has one or two
unfoldable pub count_ok : ℕ → Bool
count_ok n = eqb n 1 || eqb n 2

abbrev pub profile_of : List ℕ → Profile
profile_of [] = None
profile_of (g ∷ []) = One g
profile_of (g ∷ h ∷ l) = Two g h

abbrev pub names_ok : ℕ → List ℕ → Bool
names_ok m groups = count_ok (length groups) && profile_ok m (profile_of groups)
