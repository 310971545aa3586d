-- What the functions of the writer tell each other.
use Rattle.std.specs.Prelude.{ℕ, ◌≡◌, List, length}
use Rattle.pla.specs.Writing.{pla_text}

-- n is the length of the text of each list of k boxes
abbrev pub TextSize : ℕ → ℕ → ℕ → Type 0
TextSize m k n = (l : List ℕ) → length l ≡ k → length (pla_text m l) ≡ n
