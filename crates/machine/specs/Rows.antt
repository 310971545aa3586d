-- The lines of an input (01, 'Desk program'): cut at newlines, then judged by their length.
use Rattle.std.specs.Prelude.{ℕ, cond, List, [], ◌∷◌, ◌++◌, leb, eqb, length}

-- the bytes that a line may have; the code has them as `Line::MOST`, and the contract of `Line::limits` says that it is the same
abbrev pub most_bytes : ℕ
most_bytes = 40

-- a line that can be read, without its newline, or one that cannot
pub data Row : Type 0 where
  whole : List ℕ → Row
  spoiled : Row

-- at most 40 bytes a line
unfoldable pub judged : List ℕ → Row
judged line = cond (leb (length line) most_bytes) (whole line) spoiled

-- the lines of an input of which `begun` has come already; a last line without newline is unreadable
unfoldable pub rows_from : List ℕ → List ℕ → List Row
rows_from begun [] = cond (eqb (length begun) 0) [] (spoiled ∷ [])
rows_from begun (b ∷ rest) = cond (eqb b 10) (judged begun ∷ rows_from [] rest) (rows_from (begun ++ b ∷ []) rest)

abbrev pub rows : List ℕ → List Row
rows input = rows_from [] input

-- the same lines, but that in places stands another line, which R relates to the one that stood there
pub data SameBut (R : List ℕ → List ℕ → Type 0) : List Row → List Row → Type 0 where
  none : SameBut R [] []
  same : {row : Row} {a b : List Row} → SameBut R a b → SameBut R (row ∷ a) (row ∷ b)
  but : {line other : List ℕ} {a b : List Row} → R line other → SameBut R a b → SameBut R (whole line ∷ a) (whole other ∷ b)
