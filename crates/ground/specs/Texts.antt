-- Texts are lists of bytes.
use Rattle.std.specs.Prelude.{ℕ, ◌≡◌, List, [] as end, ◌∷◌ as ◌then◌, ◌++◌}
use Prim.Native.String.{String, [], ◌∷◌}
use Prim.Native.Char.{code}

-- the bytes of a text that is written out
abbrev pub ascii : String → List ℕ
ascii [] = end
ascii (c ∷ s) = code c then ascii s

-- a is a beginning of t
abbrev pub Begins : List ℕ → List ℕ → Type 0
Begins a t = (rest : List ℕ) × (t ≡ a ++ rest)
