-- What the functions of the reader tell each other of a line, and of the part behind a verb.
use Rattle.std.specs.Prelude.{ℕ, List, [], Option, Some, None}
use Rattle.times.specs.declared.Form.{Form}
use Rattle.lines.specs.declared.Order.{Order}
use Rattle.lines.specs.Words.{Names, NamesAmount, Says}

-- P, or nothing that is P
abbrev pub Patterned : ℕ → List ℕ → Option ℕ → Type 0
Patterned m part (Some c) = Names m [] part c
Patterned m part None = (c : ℕ) → Names m [] part c → ⊥

-- P, one space and T, or nothing that is so
abbrev pub Amounts : ℕ → List ℕ → Option (ℕ × ℕ × Form) → Type 0
Amounts m part (Some (c, d, f)) = NamesAmount m [] part c d f
Amounts m part None = (c d : ℕ) (f : Form) → NamesAmount m [] part c d f → ⊥

-- what a line says, or that it says nothing
abbrev pub SaysOrNot : ℕ → List ℕ → Option Order → Type 0
SaysOrNot m line (Some o) = Says m line o
SaysOrNot m line None = (o : Order) → Says m line o → ⊥
