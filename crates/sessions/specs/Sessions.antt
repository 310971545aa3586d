-- A session in the code: where it stands in the machine of its program, and what its calls promise.
use Rattle.std.specs.Prelude.{ℕ, ◌+◌, ◌^◌, ◌≤◌, ◌<◌, ◌≡◌, List, length}
use Rattle.machine.specs.Pieces.{Position, in-line, state_in, Takes, FedBy, FinishedBy}
use Rattle.machine.specs.AtHand.{typed}
use Rattle.machine.specs.Steps.{page_room}
use Rattle.machine.specs.Programs.{Kind}
use Rattle.sessions.specs.declared.Session.{Session}
use Rattle.sessions.specs.declared.Fed.{Fed}

-- the room that a call may need in the lent area, for a last line and the end of the input; the code has it as `ROOM`, and the contract of
-- `limits` says that it is the same
abbrev pub room : ℕ
room = page_room + page_room

-- the session of a position
abbrev pub session_of : {P : Type 0} → (k : Kind P) → Position k.machine → Session P
session_of k (in-line n s begun) = record { line = typed n begun; program = k.held s }

-- the session is one of this kind, and stands at this position
pub record At {P : Type 0} (k : Kind P) (s : Session P) (p : Position k.machine) : Type 0 where
  pub is : s ≡ session_of k p
  pub can : k.Can (state_in p)

-- a session that stands somewhere
abbrev pub Stands : {P : Type 0} → Kind P → Session P → Type 0
Stands k s = (p : Position k.machine) × At k s p

-- a session that stands somewhere, whose lines can be counted on, and an area with room for what a call prints
pub record SessionReady {P : Type 0} (k : Kind P) (s : Session P) (out : List ℕ) : Type 0 where
  pub stands : Stands k s
  pub count : s.line.number + 1 < 2 ^ 64
  pub space : room ≤ length out

-- one call on a piece: what it took, the session behind it, and what it wrote
pub record FedTo {P : Type 0} (k : Kind P) (p : Position k.machine) (piece out : List ℕ) (after : Session P) (r : Fed) (later : List ℕ) : Type 0 where
  pub position : Position k.machine
  pub fed : FedBy k.machine p piece out r.used r.wrote position later
  pub session : At k after position

abbrev pub Feeds : {P : Type 0} → Kind P → Session P → List ℕ → List ℕ → Session P → Fed → List ℕ → Type 0
Feeds k s piece out after r later = (p : Position k.machine) → At k s p → FedTo k p piece out after r later

-- the call at the end of the input
abbrev pub Closes : {P : Type 0} → Kind P → Session P → List ℕ → ℕ → List ℕ → Type 0
Closes k s out wrote later = (p : Position k.machine) → At k s p → FinishedBy k.machine p out wrote later

-- the session has taken these bytes, from the position p on
pub record Took {P : Type 0} (k : Kind P) (p : Position k.machine) (bytes : List ℕ) (s : Session P) : Type 0 where
  pub position : Position k.machine
  pub said : List ℕ
  pub takes : Takes k.machine p bytes position said
  pub at : At k s position
