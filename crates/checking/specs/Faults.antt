-- The faults of a list that should fit a class (02, Q-4), over the number of marks m. `need` has the combinations that a list must cover, `room` those
-- that it may cover: for a sheet those that are in, and those that are not out.
use Rattle.std.specs.Prelude.{ℕ, ◌^◌, ◌<◌, ◌≤◌, ◌≡◌, Bool, true, false, List, length, get_or}
use Rattle.boxes.specs.Boxes.{contains}
use Rattle.lists.specs.Lists.{covered, Fits}
use Rattle.lists.specs.Pottosin.{Joined}
use Rattle.checking.specs.declared.Fault.{Fault}
use Rattle.checking.specs.declared.Fault.TheVariants as fault
use Rattle.checking.specs.Finding.{Finding}
use Rattle.checking.specs.Finding.Finding.{Fitting, Faulty}

-- at index i: a box number not below 3^m
abbrev pub NoBox : ℕ → List ℕ → ℕ → Type 0
NoBox m l i = 3 ^ m ≤ get_or l i 0

-- a box that overlaps an earlier one: they share a combination
abbrev pub Overlaps : ℕ → List ℕ → ℕ → Type 0
Overlaps m l i = (j : ℕ) × (j < i) × Joined m (get_or l j 0) (get_or l i 0)

-- a box that leaves the class: it contains a combination that has no room, one that is out
abbrev pub Leaves : ℕ → (ℕ → Bool) → List ℕ → ℕ → Type 0
Leaves m room l i = (c : ℕ) × (contains m (get_or l i 0) c ≡ true) × (room c ≡ false)

-- a combination of the class that is not covered
abbrev pub Uncovered : ℕ → (ℕ → Bool) → List ℕ → ℕ → Type 0
Uncovered m need l c = (need c ≡ true) × (covered m l c ≡ false)

-- the list has this fault there: at this index, or of this combination
abbrev pub Has : ℕ → (ℕ → Bool) → (ℕ → Bool) → List ℕ → Fault → ℕ → Type 0
Has m need room l fault.NoBox i = (i < length l) × NoBox m l i
Has m need room l fault.Overlap i = (i < length l) × Overlaps m l i
Has m need room l fault.Leaves i = (i < length l) × Leaves m room l i
Has m need room l fault.Uncovered c = Uncovered m need l c

-- the faults by number, which is their order
abbrev pub fault_number : Fault → ℕ
fault_number fault.NoBox = 1
fault_number fault.Overlap = 2
fault_number fault.Leaves = 3
fault_number fault.Uncovered = 4

-- the first place of the first fault
pub record FirstFault (m : ℕ) (need room : ℕ → Bool) (l : List ℕ) (f : Fault) (i : ℕ) : Type 0 where
  pub here : Has m need room l f i
  pub first_place : (j : ℕ) → j < i → Has m need room l f j → ⊥
  pub first_kind : (g : Fault) → fault_number g < fault_number f → (j : ℕ) → Has m need room l g j → ⊥

-- what is found: the list fits, or its first fault
pub data Judged (m : ℕ) (need room : ℕ → Bool) (l : List ℕ) : Finding → Type 0 where
  fits : Fits m need room l → Judged m need room l Fitting
  faulty : {f : Fault} {i : ℕ} → FirstFault m need room l f i → Judged m need room l (Faulty f i)
