-- Which texts are running times, of how many seconds, and in which form (01, 'Running times'; 02, Q-3). A text is a list of bytes.
use Rattle.std.specs.Prelude.{ℕ, ◌+◌, ◌-◌, ◌*◌, ◌/◌, ◌%◌, ◌≤◌, ◌<◌, ◌≡◌, List, [], ◌∷◌, ◌++◌, length}
use Rattle.ground.specs.Texts.{ascii}
use Rattle.times.specs.declared.Form.{Form}
use Rattle.times.specs.declared.Form.TheVariants.{Minutes, Hours}

-- `0` to `9`
abbrev pub Digit : ℕ → Type 0
Digit c = (48 ≤ c) × (c ≤ 57)

unfoldable pub Digits : List ℕ → Type 0
Digits [] = Unit {0}
Digits (c ∷ l) = Digit c × Digits l

-- the number that the digits of l write behind those of n
unfoldable pub digits_value : ℕ → List ℕ → ℕ
digits_value n [] = n
digits_value n (c ∷ l) = digits_value (n * 10 + (c - 48)) l

-- l writes the number n, without a leading zero except `0` itself
pub record Numeral (l : List ℕ) (n : ℕ) : Type 0 where
  pub some : 0 < length l
  pub digits : Digits l
  pub plain : (rest : List ℕ) → l ≡ 48 ∷ rest → rest ≡ []
  pub is : digits_value 0 l ≡ n

-- l writes x in two digits, 00 to 59
pub record Sixty (l : List ℕ) (x : ℕ) : Type 0 where
  pub small : x ≤ 59
  pub text : l ≡ (48 + x / 10) ∷ (48 + x % 10) ∷ []

-- `M:SS`: minutes 0 to 599, a colon, seconds 00 to 59
pub record InMinutes (t : List ℕ) (v : ℕ) : Type 0 where
  pub first : List ℕ
  pub m : ℕ
  pub minutes : Numeral first m
  pub most : m ≤ 599
  pub last : List ℕ
  pub s : ℕ
  pub seconds : Sixty last s
  pub text : t ≡ first ++ ascii ":" ++ last
  pub total : v ≡ m * 60 + s

-- `H:MM:SS`: hours 1 to 9, a colon, minutes 00 to 59, a colon, seconds 00 to 59
pub record InHours (t : List ℕ) (v : ℕ) : Type 0 where
  pub h : ℕ
  pub least : 1 ≤ h
  pub most : h ≤ 9
  pub middle : List ℕ
  pub m : ℕ
  pub minutes : Sixty middle m
  pub last : List ℕ
  pub s : ℕ
  pub seconds : Sixty last s
  pub text : t ≡ (48 + h) ∷ ascii ":" ++ middle ++ ascii ":" ++ last
  pub total : v ≡ h * 3600 + m * 60 + s

-- A readable text t, its seconds v and its form: a running time in either.
pub data Readable (t : List ℕ) (v : ℕ) : Form → Type 0 where
  minutes : InMinutes t v → Readable t v Minutes
  hours : InHours t v → Readable t v Hours
