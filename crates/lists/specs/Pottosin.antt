-- The terms of document 000 (Pottosin) for a class: its intervals, their intersection graph, and the graph's smallest maximal independent sets.
-- A set of boxes is told as a list in which no box stands twice.
use Rattle.std.specs.Prelude.{◌≡◌, Bool, true, ℕ, ◌^◌, ◌<◌, ◌≤◌, length}
use mathlib.Core.List.{List, [], ◌∷◌, Memᴰ}
use Rattle.boxes.specs.Boxes.{contains}

-- a vertex: every box inside the class, not just the widest ones
abbrev pub Interval : ℕ → (ℕ → Bool) → ℕ → Type 0
Interval m class b = (b < 3 ^ m) × ((c : ℕ) → contains m b c ≡ true → class c ≡ true)

-- an edge: the two boxes share a combination
abbrev pub Joined : ℕ → ℕ → ℕ → Type 0
Joined m a b = (c : ℕ) × (contains m a c ≡ true) × (contains m b c ≡ true)

-- no edge from b to a box of the list
abbrev pub Free : ℕ → ℕ → List ℕ → Type 0
Free m b l = (a : ℕ) → Memᴰ a l → Joined m b a → ⊥

-- vertices of which no two are joined
unfoldable pub Independent : ℕ → (ℕ → Bool) → List ℕ → Type 0
Independent m class [] = Unit {0}
Independent m class (b ∷ l) = Interval m class b × Free m b l × Independent m class l

-- no vertex can be added: one that is joined to none of the set is in it
abbrev pub Maximal : ℕ → (ℕ → Bool) → List ℕ → Type 0
Maximal m class l = (b : ℕ) → Interval m class b → Free m b l → Memᴰ b l

pub record SmallestMaximal (m : ℕ) (class : ℕ → Bool) (l : List ℕ) : Type 0 where
  pub independent : Independent m class l
  pub maximal : Maximal m class l
  pub smallest : (k : List ℕ) → Independent m class k → Maximal m class k → length l ≤ length k
