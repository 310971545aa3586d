-- What the functions tell their callers of the line at hand: its number, and as much of it as has come.
use Rattle.std.specs.Prelude.{ℕ, suc, ◌+◌, ◌≤◌, Bool, false, true, cond, ◌≡◌, List, [], ◌∷◌, eqb, ltb, length, take, set, replicate}
use Rattle.machine.specs.Rows.{most_bytes, Row, whole, spoiled}
use Rattle.machine.specs.declared.line.Line.{Line}

unfoldable pub row_of : Line → Row
row_of l = cond l.long spoiled (whole (take l.len l.text))

-- line k, of which nothing has come
abbrev pub empty : ℕ → Line
empty k = record { number = k; text = replicate most_bytes 0; len = 0; long = false }

-- one byte more; the 41st spoils it
unfoldable pub pushed : Line → ℕ → Line
pushed l b =
    cond (ltb l.len most_bytes)
    (record { number = l.number; text = set l.text l.len b; len = l.len + 1; long = l.long })
    (record { number = l.number; text = l.text; len = l.len; long = true })

-- the line after these bytes
unfoldable pub typed_on : Line → List ℕ → Line
typed_on l [] = l
typed_on l (b ∷ rest) = typed_on (pushed l b) rest

-- line k, of which these bytes have come
abbrev pub typed : ℕ → List ℕ → Line
typed k begun = typed_on (empty k) begun

-- what holds of every line at hand
pub record LineFits (l : Line) : Type 0 where
  pub text : length l.text ≡ most_bytes
  pub len : l.len ≤ most_bytes

-- nothing of the line has come
abbrev pub is_none : Row → Bool
is_none spoiled = false
is_none (whole l) = eqb (length l) 0

-- a last line without newline is spoiled, however short it is
abbrev pub line_cut_off : Line → Line
line_cut_off l = record { number = l.number; text = l.text; len = l.len; long = true }

-- a piece taken up to and with its first newline, or all of it: the line then, how much was used, and whether the line has ended
pub record Cut : Type 0 where
  pub line : Line
  pub used : ℕ
  pub ended : Bool

abbrev pub cut : Line → ℕ → Bool → Cut
cut l used ended = record { line = l; used = used; ended = ended }

abbrev pub one_more : Cut → Cut
one_more c = record { line = c.line; used = suc c.used; ended = c.ended }

unfoldable pub cut_of : Line → List ℕ → Cut
cut_of l [] = record { line = l; used = 0; ended = false }
cut_of l (b ∷ rest) = cond (eqb b 10) (record { line = l; used = 1; ended = true }) (one_more (cut_of (pushed l b) rest))

-- room for one refusal
abbrev pub refusal_room : ℕ
refusal_room = 64
