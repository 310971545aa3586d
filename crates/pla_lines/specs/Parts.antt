-- What the functions of the line reader tell each other.
use Rattle.std.specs.Prelude.{ℕ, ◌^◌, ◌≤◌, ◌<◌, min, ◌≡◌, Bool, true, false, not, ◌||◌, List, length, get_or, Option, Some, None}
use Rattle.print.specs.Texts.{decimal, sign, pattern}
use Rattle.pla.specs.Texts.{is_gap}
use Rattle.pla.specs.Sayings.{Saying, blank, inputs, output, count, cube, end, Says}
use Rattle.pla_lines.specs.Lines.{is_stop}
use Rattle.pla_lines.specs.declared.Heard.{Heard}
use Rattle.pla_lines.specs.declared.Heard.TheVariants.{Blank, Inputs, Output, Count, Cube, End, Unreadable}

-- the test holds of each of the first n bytes, and not of the next
pub record Front (p : ℕ → Bool) (t : List ℕ) (n : ℕ) : Type 0 where
  pub inside : n ≤ length t
  pub each : (i : ℕ) → i < n → p (get_or t i 0) ≡ true
  pub last : n < length t → p (get_or t n 0) ≡ false

abbrev pub in_word : ℕ → Bool
in_word b = not (is_gap b || is_stop b)

-- a number of 64 bits, and the largest for those that are above
abbrev pub capped : ℕ → ℕ
capped n = min n 18446744073709551615

pub data Numbered (w : List ℕ) : Option ℕ → Type 0 where
  is : (n : ℕ) {v : ℕ} → w ≡ decimal n → v ≡ capped n → Numbered w (Some v)
  none : ((n : ℕ) → w ≡ decimal n → ⊥) → Numbered w None

pub data Signed (c : ℕ) : Option ℕ → Type 0 where
  is : {d : ℕ} → d < 3 → c ≡ sign d → Signed c (Some d)
  none : ((e : ℕ) → e < 3 → c ≡ sign e → ⊥) → Signed c None

pub data Boxed (m : ℕ) (w : List ℕ) : Option ℕ → Type 0 where
  is : {b : ℕ} → b < 3 ^ m → w ≡ pattern m b → Boxed m w (Some b)
  none : ((b : ℕ) → b < 3 ^ m → w ≡ pattern m b → ⊥) → Boxed m w None

-- what is heard of a saying
abbrev pub heard_as : Saying → Heard
heard_as blank = Blank
heard_as (inputs n) = Inputs (capped n)
heard_as output = Output
heard_as (count n) = Count (capped n)
heard_as (cube b) = Cube b
heard_as end = End

-- of a line of these words: what it says, or that it says nothing
pub data Hears (m : ℕ) (ws : List (List ℕ)) (r : Heard) : Type 0 where
  said : {x : Saying} → Says m ws x → r ≡ heard_as x → Hears m ws r
  unsaid : ((x : Saying) → Says m ws x → ⊥) → r ≡ Unreadable → Hears m ws r
