-- The bytes of a record of marks, profile, standings and times (01, 'Stored form'; 02, Q-6 and Q-7).
use Rattle.std.specs.Prelude.{ℕ, zero, suc, ◌/◌, ◌%◌, ◌^◌, Bool, cond, List, [], ◌∷◌, ◌++◌}
use Rattle.profiles.specs.declared.Profile.{Profile}
use Rattle.profiles.specs.declared.Profile.TheVariants.{None, One, Two}
use Rattle.sheet.specs.Record.{Record}
use Rattle.sheet.specs.Sound.{size_of}
use Rattle.stored.specs.Sections.{Rest, nothing, profile, more, sections, bytes_behind, stands_in, number_behind}
use Rattle.stored.specs.declared.Layout.{Layout}
use Rattle.stored.specs.declared.Layout.TheVariants.{Today}
use Rattle.stored.specs.declared.Section.{Section}

-- a number in k bytes, low byte first
unfoldable pub bytes : ℕ → ℕ → List ℕ
bytes zero n = []
bytes (suc k) n = (n % 256) ∷ bytes k (n / 256)

-- the combinations below n that the test takes, in rising order, each written by f
unfoldable pub listed : (ℕ → Bool) → (ℕ → List ℕ) → ℕ → List ℕ
listed p f zero = []
listed p f (suc n) = listed p f n ++ cond (p n) (f n) []

-- an entry: the combination in one byte, and the number behind it
abbrev pub entry_of : Section → Record → ℕ → List ℕ
entry_of s r c = c ∷ bytes (bytes_behind s) (number_behind s r c)

-- a section: how many combinations stand in it, in two bytes, and then those
abbrev pub entries_of : Section → Record → List ℕ
entries_of s r = listed (stands_in s r) (entry_of s r) (2 ^ r.marks)

abbrev pub section : Section → Record → List ℕ
section s r = bytes 2 (size_of r.marks (stands_in s r)) ++ entries_of s r

-- a profile: how many groups it has, in two bytes, and each in one; a sheet without a profile has nothing there
abbrev pub profile_bytes : Profile → List ℕ
profile_bytes None = []
profile_bytes (One g) = bytes 2 1 ++ (g ∷ [])
profile_bytes (Two g h) = bytes 2 2 ++ (g ∷ h ∷ [])

-- what follows, one behind the other
abbrev pub rest_of : Rest → Record → List ℕ
rest_of nothing r = []
rest_of profile r = profile_bytes r.profile
rest_of (more s rest) r = section s r ++ rest_of rest r

-- byte m, and what follows it
unfoldable pub form_by : Layout → Record → List ℕ
form_by layout r = r.marks ∷ rest_of (sections layout) r

-- today's
abbrev pub form : Record → List ℕ
form r = form_by Today r
