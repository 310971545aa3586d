-- What a fitting list is, and which is the first shortest (01, 'Terms'), over the number of marks m. A set of combinations is a test.
-- `need` has the combinations that a list must cover, `room` those that it may cover: those that stand in, and those that are not out (02, Q-6).
use Rattle.std.specs.Prelude.{◌≡◌, ◌⊎◌, Bool, true, false, ◌&&◌, ◌||◌, List, [], ◌∷◌, ℕ, zero, suc, ◌-◌, ◌^◌, ◌≤◌, ◌<◌, eqb, length}
use Rattle.boxes.specs.Boxes.{contains, lowest}

-- each is the number of a box over m marks
unfoldable pub Boxes : ℕ → List ℕ → Type 0
Boxes m [] = Unit {0}
Boxes m (b ∷ l) = (b < 3 ^ m) × Boxes m l

-- some box of the list contains c
unfoldable pub covered : ℕ → List ℕ → ℕ → Bool
covered m [] c = false
covered m (b ∷ l) c = contains m b c || covered m l c

-- no two boxes of the list share a combination
unfoldable pub Apart : ℕ → List ℕ → Type 0
Apart m [] = Unit {0}
Apart m (b ∷ l) = ((c : ℕ) → contains m b c ≡ true → covered m l c ≡ false) × Apart m l

-- no two boxes share a combination, and together they contain all that is needed and nothing that has no room
pub record Fits (m : ℕ) (need room : ℕ → Bool) (l : List ℕ) : Type 0 where
  pub boxes : Boxes m l
  pub apart : Apart m l
  pub covers : (c : ℕ) → need c ≡ true → covered m l c ≡ true
  pub inside : (c : ℕ) → covered m l c ≡ true → room c ≡ true

-- no fitting list has fewer than n boxes
abbrev pub AtLeast : ℕ → (ℕ → Bool) → (ℕ → Bool) → ℕ → Type 0
AtLeast m need room n = (l : List ℕ) → Fits m need room l → n ≤ length l

-- the most boxes that a shortest list can have, whatever is needed and whatever has room (`at_most` in proofs/Exist)
abbrev pub most_lines : ℕ → ℕ
most_lines m = 2 ^ (m - 1)

-- the combinations of a set are below 2^m
abbrev pub Small : ℕ → (ℕ → Bool) → Type 0
Small m need = (c : ℕ) → need c ≡ true → c < 2 ^ m

-- every combination of the first set is in the second, as where what is needed has room
abbrev pub Within : (ℕ → Bool) → (ℕ → Bool) → Type 0
Within need room = (c : ℕ) → need c ≡ true → room c ≡ true

-- the first of the k numbers from f on that is in the set, and f + k where none is
unfoldable pub first_from : (ℕ → Bool) → ℕ → ℕ → ℕ
first_from p zero f = f
first_from p (suc k) f = elim (p f) [ true ↦ f | false ↦ first_from p k (suc f) ]

-- the set of the combinations listed
unfoldable pub among : List ℕ → ℕ → Bool
among [] c = false
among (x ∷ l) c = eqb c x || among l c

-- the lowest combination of a set, and 2^m where there is none
abbrev pub lowest_of : ℕ → (ℕ → Bool) → ℕ
lowest_of m p = first_from p (2 ^ m) 0

-- the lowest needed combination of a box
abbrev pub lowest_needed : ℕ → (ℕ → Bool) → ℕ → ℕ
lowest_needed m need b = lowest_of m (λ c. need c && contains m b c)

-- the lowest needed combination of b is below that of each box of l
unfoldable pub Ahead : ℕ → (ℕ → Bool) → ℕ → List ℕ → Type 0
Ahead m need b [] = Unit {0}
Ahead m need b (a ∷ l) = (lowest_needed m need b < lowest_needed m need a) × Ahead m need b l

-- in rising order of each box's lowest needed combination
unfoldable pub Rising : ℕ → (ℕ → Bool) → List ℕ → Type 0
Rising m need [] = Unit {0}
Rising m need (b ∷ l) = Ahead m need b l × Rising m need l

-- and, of boxes inside a class, in rising order of each box's lowest combination: for a class the two are the same (`rising_same` in proofs/Class)

unfoldable pub LowAhead : ℕ → ℕ → List ℕ → Type 0
LowAhead m b [] = Unit {0}
LowAhead m b (a ∷ l) = (lowest m b < lowest m a) × LowAhead m b l

unfoldable pub LowRising : ℕ → List ℕ → Type 0
LowRising m [] = Unit {0}
LowRising m (b ∷ l) = LowAhead m b l × LowRising m l

-- of two lists of one length: the smaller box number at the first place where they differ
unfoldable pub Smaller : List ℕ → List ℕ → Type 0
Smaller [] [] = ⊥
Smaller [] (b ∷ k) = ⊥
Smaller (a ∷ l) [] = ⊥
Smaller (a ∷ l) (b ∷ k) = (a < b) ⊎ ((a ≡ b) × Smaller l k)

-- list l is before list k: fewer boxes, or as many and the smaller box number at the first place where they differ
abbrev pub Before : List ℕ → List ℕ → Type 0
Before l k = (length l < length k) ⊎ ((length l ≡ length k) × Smaller l k)

-- the first shortest list: it fits and is in order, no fitting list (in any order) is shorter, and it is before every other in order
pub record FirstShortest (m : ℕ) (need room : ℕ → Bool) (l : List ℕ) : Type 0 where
  pub fits : Fits m need room l
  pub rising : Rising m need l
  pub shortest : AtLeast m need room (length l)
  pub first : (k : List ℕ) → Fits m need room k → Rising m need k → (l ≡ k) ⊎ Before l k
