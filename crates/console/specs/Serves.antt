-- What a program at a reader and a writer has read and written.
use Rattle.std.specs.Prelude.{ℕ, ◌≡◌, ◌<◌, ◌≤◌, ◌⊎◌, false, List, [], ◌++◌, Option, length, take}
use Rattle.std.specs.Io.KnownBytes.{Consumes, Appends, IsAtEnd}
use Rattle.machine.specs.Machine.{Output}
use Rattle.machine.specs.Pieces.{Position, start, Finishes}
use Rattle.machine.specs.Programs.{Kind}
use Rattle.sessions.specs.Sessions.{Took}
use Rattle.sessions.specs.declared.Session.{Session}

-- the first n bytes of a piece were read, none only where the input is at its end
abbrev pub Fetched : ℕ → List ℕ → Option (List ℕ) → Option (List ℕ) → Type 0
Fetched n piece left later = Consumes left later (take n piece) × (n ≡ 0 → 0 < length piece → IsAtEnd later)

-- the session took these bytes, from the position p on, and what they print was written, and nothing else
pub record Passed {P : Type 0} (k : Kind P) (p : Position k.machine) (bytes : List ℕ) (s : Session P) (held now : Option (List ℕ)) : Type 0 where
  pub took : Took k p bytes s
  pub wrote : Appends held now took.said

-- a piece was served: the session took it, or as much of it as there is before the program is over
pub record Served {P : Type 0} (k : Kind P) (p : Position k.machine) (piece : List ℕ) (s : Session P) (held now : Option (List ℕ)) : Type 0 where
  pub taken : List ℕ
  pub rest : List ℕ
  pub is : piece ≡ taken ++ rest
  pub passed : Passed k p taken s held now
  pub all : k.over s.program ≡ false → rest ≡ []

-- the input has ended at this position, and what is printed then was written
pub record Closed {P : Type 0} (k : Kind P) (p : Position k.machine) (held now : Option (List ℕ)) : Type 0 where
  pub text : List ℕ
  pub finishes : Finishes k.machine p text
  pub wrote : Appends held now text

-- so far: the session took what was read, and what it prints was written, and nothing else
pub record Runs {P : Type 0} (k : Kind P) (s : Session P) (left later held now : Option (List ℕ)) : Type 0 where
  pub input : List ℕ
  pub read : Consumes left later input
  pub passed : Passed k (start k.machine) input s held now

-- so many reads were made, each of a byte or more: what was written is what the lines so far print, and nothing else. An input of fewer bytes is never used up so.
pub record UsedUp {P : Type 0} (k : Kind P) (reads : ℕ) (left later held now : Option (List ℕ)) : Type 0 where
  pub session : Session P
  pub runs : Runs k session left later held now
  pub long : reads ≤ length runs.input

-- WHAT WAS WRITTEN IS THE OUTPUT OF WHAT WAS READ, and that is all of the input, or enough of it: then the output is the same whatever follows
pub record Serves {P : Type 0} (k : Kind P) (left later held now : Option (List ℕ)) : Type 0 where
  pub input : List ℕ
  pub output : List ℕ
  pub read : Consumes left later input
  pub wrote : Appends held now output
  pub prints : Output k.machine input output
  pub ends : IsAtEnd later ⊎ ((rest : List ℕ) → Output k.machine (input ++ rest) output)
