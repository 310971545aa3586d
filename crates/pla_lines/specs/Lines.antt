-- The line at the front of some bytes, and its words.
use Rattle.std.specs.Prelude.{ℕ, Bool, cond, ◌||◌, List, [], ◌∷◌, eqb}
use Rattle.pla.specs.Texts.{is_newline, words_of}

unfoldable pub first_line : List ℕ → List ℕ
first_line [] = []
first_line (b ∷ rest) = cond (is_newline b) [] (b ∷ first_line rest)

abbrev pub words_in : List ℕ → List (List ℕ)
words_in t = words_of (first_line t)

-- a newline or `#`: no word of the line stands behind it
abbrev pub is_stop : ℕ → Bool
is_stop b = eqb b 10 || eqb b 35
