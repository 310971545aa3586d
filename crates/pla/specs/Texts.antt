-- A PLA text taken apart (02, Q-1): a line is what stands between newlines, and of what stands before a comment in it, a word is what stands between
-- spaces and tabs. 10 is the newline, 32 the space, 9 the tab, 35 `#`.
use Rattle.std.specs.Prelude.{ℕ, Bool, cond, ◌||◌, List, [], ◌∷◌, ◌++◌, eqb}

-- what stands between the bytes that a test takes, in a text of which `begun` has come already
unfoldable pub between_from : (ℕ → Bool) → List ℕ → List ℕ → List (List ℕ)
between_from p begun [] = begun ∷ []
between_from p begun (b ∷ rest) = cond (p b) (begun ∷ between_from p [] rest) (between_from p (begun ++ b ∷ []) rest)

abbrev pub is_newline : ℕ → Bool
is_newline b = eqb b 10

abbrev pub lines_of : List ℕ → List (List ℕ)
lines_of t = between_from is_newline [] t

-- a comment goes up to the end of its line, whatever it has
unfoldable pub before_comment : List ℕ → List ℕ
before_comment [] = []
before_comment (b ∷ rest) = cond (eqb b 35) [] (b ∷ before_comment rest)

abbrev pub is_gap : ℕ → Bool
is_gap b = eqb b 32 || eqb b 9

-- those that are not empty
unfoldable pub filled : List (List ℕ) → List (List ℕ)
filled [] = []
filled ([] ∷ rest) = filled rest
filled ((b ∷ w) ∷ rest) = (b ∷ w) ∷ filled rest

abbrev pub words_of : List ℕ → List (List ℕ)
words_of line = filled (between_from is_gap [] (before_comment line))
