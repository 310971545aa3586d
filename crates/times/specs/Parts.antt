-- What the functions of the reader tell each other: a running time part by part, each part with what may stand behind it.
use Rattle.std.specs.Prelude.{ℕ, ◌+◌, ◌-◌, ◌*◌, ◌≤◌, ◌<◌, ◌≡◌, List, [], ◌++◌, length, get_or, drop, Result, MatchResult}
use Rattle.std.specs.Borrow.{Bor}
use Rattle.times.specs.declared.Form.{Form}
use Rattle.times.specs.declared.Form.TheVariants.{Minutes, Hours}
use Rattle.times.specs.declared.Time.{Time}
use Rattle.times.specs.declared.Time.TheVariants.{Value, Fault}
use Rattle.ground.specs.Texts.{ascii}
use Rattle.times.specs.Texts.{Digit, Numeral, Sixty}
use Rattle.times.specs.Places.{ReadsAs}

-- nothing more, behind n minutes and x seconds in the form g
pub record Ended (g : Form) (n x : ℕ) (t : List ℕ) (v : ℕ) (f : Form) : Type 0 where
  pub nothing : t ≡ []
  pub total : v ≡ n * 60 + x
  pub form : f ≡ g

-- two digits, 00 to 59, that write x, and behind them a text of K x
pub record Two (K : ℕ → List ℕ → ℕ → Form → Type 0) (t : List ℕ) (v : ℕ) (f : Form) : Type 0 where
  pub digits : List ℕ
  pub x : ℕ
  pub sixty : Sixty digits x
  pub rest : List ℕ
  pub text : t ≡ digits ++ rest
  pub behind : K x rest v f

-- behind `N:XX`: nothing more, where these are minutes and seconds; or a colon and seconds, where N is hours, 1 to 9
pub data After (n x : ℕ) (t : List ℕ) (v : ℕ) (f : Form) : Type 0 where
  ends : Ended Minutes n x t v f → After n x t v f
  goes_on : 1 ≤ n → n ≤ 9 → (rest : List ℕ) → t ≡ ascii ":" ++ rest → Two (Ended Hours (n * 60 + x)) rest v f → After n x t v f

-- the whole text: a number up to 599, a colon, and what may stand behind it (it says what `Readable` says: `by_parts`, `as_written` in proofs/Words)
pub record ByParts (t : List ℕ) (v : ℕ) (f : Form) : Type 0 where
  pub first : List ℕ
  pub n : ℕ
  pub numeral : Numeral first n
  pub small : n ≤ 599
  pub rest : List ℕ
  pub text : t ≡ first ++ ascii ":" ++ rest
  pub behind : Two (After n) rest v f

-- the digit c may follow i digits that write n: no leading zero, and 599 at most
pub record Follows (i n c : ℕ) : Type 0 where
  pub digit : Digit c
  pub plain : 0 < i → 0 < n
  pub small : n * 10 + (c - 48) ≤ 599

-- the number at the front of a text and the length up to the part behind it, or the place
pub data Lead : Type 0 where
  Front : ℕ → ℕ → Lead
  Stop : ℕ → Lead

-- the number in front of the colon and the length up to and with the colon, or the place of the whole text
pub data Led (t : List ℕ) : Lead → Type 0 where
  colon : {n k : ℕ} (first rest : List ℕ) → t ≡ first ++ ascii ":" ++ rest → Numeral first n → n ≤ 599 → k ≡ length first + 1 → Led t (Front n k)
  stop : {p : ℕ} → ReadsAs ByParts t (Fault p) → Led t (Stop p)

-- a digit up to a top
abbrev pub UpTo : ℕ → ℕ → Type 0
UpTo top c = (48 ≤ c) × (c ≤ top)

-- the number of two digits, 00 to 59, that the text begins with, or which of them is missing
pub data Paired (t : List ℕ) : Lead → Type 0 where
  two : {x : ℕ} → 1 < length t → UpTo 53 (get_or t 0 0) → UpTo 57 (get_or t 1 0) → x ≡ (get_or t 0 0 - 48) * 10 + (get_or t 1 0 - 48) → Paired t (Front x 2)
  no_tens : (0 < length t → UpTo 53 (get_or t 0 0) → ⊥) → Paired t (Stop 0)
  no_ones : 0 < length t → UpTo 53 (get_or t 0 0) → (1 < length t → UpTo 57 (get_or t 1 0) → ⊥) → Paired t (Stop 1)

-- no digit up to a top stands in front
abbrev pub NoDigit : ℕ → List ℕ → Type 0
NoDigit top t = 0 < length t → UpTo top (get_or t 0 0) → ⊥

-- rest is what t has behind its first k bytes, of which P holds
pub record Left (t rest : List ℕ) (P : ℕ → Type 0) : Type 0 where
  pub k : ℕ
  pub inside : k ≤ length t
  pub rest_is : rest ≡ drop k t
  pub there : P k

-- a part that is read as a number hands on what stands behind it, and else leaves unread what has the fault in front
abbrev pub HandsOn : (List ℕ → Lead → Type 0) → List ℕ → Result (ℕ × Bor (List ℕ)) (Bor (List ℕ)) → Type 0
HandsOn P t r = MatchResult r (λ v. Left t v.1.now (λ k. P t (Front v.0 k))) (λ rest. Left t rest.now (λ k. P t (Stop k)))

-- the number and the form of a text of L, or what is left unread
abbrev pub Reads : (List ℕ → ℕ → Form → Type 0) → List ℕ → Result (ℕ × Form) (Bor (List ℕ)) → Type 0
Reads L t r = MatchResult r (λ v. L t v.0 v.1) (λ rest. Left t rest.now (λ k. ReadsAs L t (Fault k)))

-- the place of a fault, 0 for a value
abbrev pub place_of : Time → ℕ
place_of (Value v f) = 0
place_of (Fault p) = p

-- what a text reads as whose part behind the first k bytes reads so
abbrev pub placed_on : ℕ → Time → Time
placed_on k (Value v f) = Value v f
placed_on k (Fault p) = Fault (k + p)
