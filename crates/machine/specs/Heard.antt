-- What is heard of a line, and by which answers it can be refused.
use Rattle.std.specs.Prelude.{ℕ, ◌≡◌, Bool, true, List, []}
use Rattle.machine.specs.Machine.{refusal}

-- what line k prints: nothing, a page, or a refusal by a number of these
pub data Hears (Page : List ℕ → Type 0) (k : ℕ) (numbers : ℕ → Bool) : List ℕ → Type 0 where
  nothing : Hears Page k numbers []
  page : {text : List ℕ} → Page text → Hears Page k numbers text
  refused : (a : ℕ) → numbers a ≡ true → Hears Page k numbers (refusal k a)
