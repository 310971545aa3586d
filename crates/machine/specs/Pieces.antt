-- A machine that takes one byte after another: over any cutting of the input into pieces this comes to `Output` (proofs/Pieces), and what a line
-- is answered is printed when its newline is taken.
use Rattle.std.specs.Prelude.{ℕ, suc, ◌+◌, ◌≡◌, cond, List, [], ◌∷◌, ◌++◌, eqb, take}
use Rattle.ground.specs.Areas.{Wrote}
use Rattle.machine.specs.Rows.{judged, spoiled}
use Rattle.machine.specs.Machine.{Machine}

-- in line k and a state; of the line these bytes have come
pub data Position (M : Machine) : Type 0 where
  in-line : ℕ → M.State → List ℕ → Position M

abbrev pub start : (M : Machine) → Position M
start M = in-line 1 M.start []

abbrev pub line_in : {M : Machine} → Position M → ℕ
line_in (in-line k s begun) = k

abbrev pub state_in : {M : Machine} → Position M → M.State
state_in (in-line k s begun) = s

-- bytes taken one after another: the position behind them, and what has been printed by then
pub data Takes (M : Machine) : Position M → List ℕ → Position M → List ℕ → Type 0 where
  none : {p : Position M} → Takes M p [] p []
  byte : {k b : ℕ} {s : M.State} {begun rest said : List ℕ} {q : Position M} → (b ≡ 10 → ⊥) → Takes M (in-line k s (begun ++ b ∷ [])) rest q said
      → Takes M (in-line k s begun) (b ∷ rest) q said
  newline : {k : ℕ} {s t : M.State} {begun rest now later : List ℕ} {q : Position M} → M.step k s (judged begun) t now
      → Takes M (in-line (k + 1) t []) rest q later → Takes M (in-line k s begun) (10 ∷ rest) q (now ++ later)

-- the end of the input: a last line without newline is spoiled
pub data Finishes (M : Machine) : Position M → List ℕ → Type 0 where
  ended : {k : ℕ} {s : M.State} {text : List ℕ} → M.stop s text → Finishes M (in-line k s []) text
  cut_off : {k b : ℕ} {s t : M.State} {begun now text : List ℕ} → M.step k s spoiled t now → M.stop t text
      → Finishes M (in-line k s (b ∷ begun)) (now ++ text)

-- the whole of an input that comes in pieces
pub data InPieces (M : Machine) : Position M → List (List ℕ) → List ℕ → Type 0 where
  done : {p : Position M} {text : List ℕ} → Finishes M p text → InPieces M p [] text
  piece : {p q : Position M} {a now later : List ℕ} {rest : List (List ℕ)} → Takes M p a q now → InPieces M q rest later
      → InPieces M p (a ∷ rest) (now ++ later)

-- how much of a piece one call takes: up to and with the first newline, or all
unfoldable pub up_to_newline : List ℕ → ℕ
up_to_newline [] = 0
up_to_newline (b ∷ rest) = cond (eqb b 10) 1 (suc (up_to_newline rest))

-- one call on a piece, from position to position: how much it used of the piece, and what it wrote in a lent area
pub record FedBy (M : Machine) (p : Position M) (piece out : List ℕ) (taken wrote : ℕ) (q : Position M) (later : List ℕ) : Type 0 where
  pub used : taken ≡ up_to_newline piece
  pub said : List ℕ
  pub takes : Takes M p (take (up_to_newline piece) piece) q said
  pub laid : Wrote out 0 said wrote later

-- the call at the end of the input
pub record FinishedBy (M : Machine) (p : Position M) (out : List ℕ) (wrote : ℕ) (later : List ℕ) : Type 0 where
  pub said : List ℕ
  pub finishes : Finishes M p said
  pub laid : Wrote out 0 said wrote later
