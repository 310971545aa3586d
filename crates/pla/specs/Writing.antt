-- The PLA text of a list (02, Q-1): `.i`, `.o 1`, `.p`, a line for each box in the list's order, and `.e`, with single spaces and newlines.
use Rattle.std.specs.Prelude.{ℕ, List, [], ◌∷◌, ◌++◌, length}
use Rattle.ground.specs.Texts.{ascii}
use Rattle.print.specs.Texts.{decimal, pattern}

unfoldable pub cube_lines : ℕ → List ℕ → List ℕ
cube_lines m [] = []
cube_lines m (b ∷ l) = pattern m b ++ ascii " 1\n" ++ cube_lines m l

unfoldable pub pla_text : ℕ → List ℕ → List ℕ
pla_text m l = ascii ".i " ++ decimal m ++ ascii "\n.o 1\n.p " ++ decimal (length l) ++ ascii "\n" ++ cube_lines m l ++ ascii ".e\n"
