-- What a line of a PLA text says (02, Q-1).
use Rattle.std.specs.Prelude.{ℕ, ◌^◌, ◌<◌, ◌≡◌, List, [], ◌∷◌}
use Rattle.ground.specs.Texts.{ascii}
use Rattle.print.specs.Texts.{decimal, pattern}

pub data Saying : Type 0 where
  blank : Saying
  inputs : (n : ℕ) → Saying
  output : Saying
  count : (n : ℕ) → Saying
  cube : (b : ℕ) → Saying
  end : Saying

-- A line of the words ws, in a text of m inputs. Numbers have no needless leading zero, and any length. A cube has one of `0`, `1` and `-` for each
-- input, the leftmost for the highest mark: it is the pattern of a box. All behind the word `.e` is skipped.
pub data Says (m : ℕ) (ws : List (List ℕ)) : Saying → Type 0 where
  no_word : ws ≡ [] → Says m ws blank
  dot_i : {n : ℕ} → ws ≡ ascii ".i" ∷ decimal n ∷ [] → Says m ws (inputs n)
  dot_o : ws ≡ ascii ".o" ∷ ascii "1" ∷ [] → Says m ws output
  dot_p : {n : ℕ} → ws ≡ ascii ".p" ∷ decimal n ∷ [] → Says m ws (count n)
  drawn : {b : ℕ} → b < 3 ^ m → ws ≡ pattern m b ∷ ascii "1" ∷ [] → Says m ws (cube b)
  dot_e : {rest : List (List ℕ)} → ws ≡ ascii ".e" ∷ rest → Says m ws end
