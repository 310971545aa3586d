-- What the functions of the check tell each other.
use Rattle.std.specs.Prelude.{ℕ, ◌^◌, ◌<◌, ◌≡◌, Bool, List, length, Option, Result, Ok, Err, MatchOption}
use Rattle.lists.specs.Lists.{covered}
use Rattle.sets.specs.Sets.{has}
use Rattle.checking.specs.declared.Fault.{Fault}
use Rattle.checking.specs.Finding.{Finding}
use Rattle.checking.specs.Finding.Finding.{Fitting, Faulty}
use Rattle.checking.specs.Faults.{Overlaps, Judged}

-- the first index of the list where P holds
pub record FirstAt (l : List ℕ) (P : ℕ → Type 0) (i : ℕ) : Type 0 where
  pub inside : i < length l
  pub none_before : (j : ℕ) → j < i → P j → ⊥
  pub here : P i

-- P holds at no index of the list
abbrev pub Nowhere : List ℕ → (ℕ → Type 0) → Type 0
Nowhere l P = (j : ℕ) → j < length l → P j → ⊥

-- what a search for P in the list gives
abbrev pub Sought : List ℕ → (ℕ → Type 0) → Option ℕ → Type 0
Sought l P r = MatchOption r (Nowhere l P) (FirstAt l P)

-- no boxes of the list overlap, and together they cover the set u
pub record AllCovered (m : ℕ) (l : List ℕ) (u : ℕ) : Type 0 where
  pub small : u < 2 ^ 32
  pub apart : Nowhere l (Overlaps m l)
  pub covers : (c : ℕ) → has u c ≡ covered m l c

-- what is found of a list for a class: that it fits, or its first fault
abbrev pub found_of : Result (Unit {0}) (Fault × ℕ) → Finding
found_of (Ok _) = Fitting
found_of (Err f) = Faulty f.0 f.1

abbrev pub JudgedAs : ℕ → (ℕ → Bool) → (ℕ → Bool) → List ℕ → Result (Unit {0}) (Fault × ℕ) → Type 0
JudgedAs m need room l r = Judged m need room l (found_of r)
