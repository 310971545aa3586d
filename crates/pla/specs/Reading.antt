-- What a PLA text says (02, Q-1): its lines judged in order. Largest marks are a parameter.
use Rattle.std.specs.Prelude.{ℕ, ◌+◌, ◌≡◌, Bool, true, false, not, cond, ◌&&◌, List, [], ◌∷◌, ◌++◌, eqb, ltb, length}
use Rattle.boxes.specs.Boxes.{contains}
use Rattle.lists.specs.Lists.{covered}
use Rattle.classes.specs.declared.Standing.TheVariants.{In, Out}
use Rattle.sheet.specs.Limits.{marks_ok}
use Rattle.sheet.specs.Record.{Record, opened, with_standing}
use Rattle.stored.specs.Fields.{Outcome, good, refused}
use Rattle.pla.specs.Texts.{lines_of, words_of}
use Rattle.pla.specs.Sayings.{Saying, blank, inputs, output, count, cube, end, Says}

-- the `.p` line: none came, or it has this number and stands at this offset
pub data Count : Type 0 where
  uncounted : Count
  counted : (n at : ℕ) → Count

abbrev pub is_counted : Count → Bool
is_counted uncounted = false
is_counted (counted n at) = true

-- What the lines before have said: the inputs (0 where `.i` has not come), whether `.o 1` has come, the `.p` line, and the cubes, as boxes.
pub record Said : Type 0 where
  pub inputs : ℕ
  pub output : Bool
  pub count : Count
  pub cubes : List ℕ

abbrev pub nothing_said : Said
nothing_said = record { inputs = 0; output = false; count = uncounted; cubes = [] }

-- the record of a class of m marks without a profile, that holds nothing: what is not in it is out
abbrev pub class_alone : ℕ → (ℕ → Bool) → Record
class_alone m class = with_standing (λ c. cond (class c) In Out) (opened m)

-- the record that is drawn: the class is the union of the cubes, and nothing is held
abbrev pub drawn_by : Said → Record
drawn_by s = class_alone s.inputs (covered s.inputs s.cubes)

-- the number of cubes is k; a `.p` line says so, or there is none
abbrev pub agreed : Record → ℕ → Count → Outcome
agreed r k uncounted = good r
agreed r k (counted n at) = cond (eqb n k) (good r) (refused 10 at)

-- At the end of an input of `size` bytes: 10 with the input's length if `.i` or `.o` never came, and then 10 at a `.p` line that miscounts the cubes.
abbrev pub comes_to : ℕ → Said → Outcome
comes_to size s = cond (ltb 0 s.inputs && s.output) (agreed (drawn_by s) (length s.cubes) s.count) (refused 10 size)

-- what a line leads to: the lines behind it, or an answer
pub data Next : Type 0 where
  on : Said → Next
  stop : Outcome → Next

-- The line at the offset `at`. `.i` and `.o` come in this order before any cube, each keyword at most once: otherwise the line is unreadable. Inputs
-- that are not 1 to 5 are 1 at once.
abbrev pub judge : (most size : ℕ) → Said → ℕ → Saying → Next
judge most size s at blank = on s
judge most size s at (inputs n) =
    cond (eqb s.inputs 0)
    (cond (marks_ok most n) (on (record { inputs = n; output = s.output; count = s.count; cubes = s.cubes })) (stop (refused 1 0)))
    (stop (refused 10 at))
judge most size s at output =
    cond (ltb 0 s.inputs && not s.output) (on (record { inputs = s.inputs; output = true; count = s.count; cubes = s.cubes })) (stop (refused 10 at))
judge most size s at (count n) =
    cond (is_counted s.count) (stop (refused 10 at)) (on (record { inputs = s.inputs; output = s.output; count = counted n at; cubes = s.cubes }))
judge most size s at (cube b) =
    cond s.output (on (record { inputs = s.inputs; output = true; count = s.count; cubes = s.cubes ++ b ∷ [] })) (stop (refused 10 at))
judge most size s at end = stop (comes_to size s)

-- The lines from the offset `at` on, in order: the first that says nothing is unreadable, and answered by 10 at its offset.
pub data Run (most size : ℕ) : Said → ℕ → List (List ℕ) → Outcome → Type 0 where
  over : {s : Said} {at : ℕ} → Run most size s at [] (comes_to size s)
  unreadable : {s : Said} {at : ℕ} {line : List ℕ} {rest : List (List ℕ)} → ((x : Saying) → Says s.inputs (words_of line) x → ⊥)
      → Run most size s at (line ∷ rest) (refused 10 at)
  stopped : {s : Said} {at : ℕ} {line : List ℕ} {rest : List (List ℕ)} {x : Saying} {o : Outcome} → Says s.inputs (words_of line) x
      → judge most size s at x ≡ stop o → Run most size s at (line ∷ rest) o
  taken : {s u : Said} {at : ℕ} {line : List ℕ} {rest : List (List ℕ)} {x : Saying} {o : Outcome} → Says s.inputs (words_of line) x
      → judge most size s at x ≡ on u → Run most size u (at + length line + 1) rest o → Run most size s at (line ∷ rest) o

-- the text t says so: all its lines
pub record PlaSays (most : ℕ) (t : List ℕ) (o : Outcome) : Type 0 where
  pub run : Run most (length t) nothing_said 0 (lines_of t) o

-- some line before `.e` is a cube of m inputs that contains c
pub data Drawn (m c : ℕ) : List (List ℕ) → Type 0 where
  here : {b : ℕ} {line : List ℕ} {rest : List (List ℕ)} → Says m (words_of line) (cube b) → contains m b c ≡ true → Drawn m c (line ∷ rest)
  later : {line : List ℕ} {rest : List (List ℕ)} → (Says m (words_of line) end → ⊥) → Drawn m c rest → Drawn m c (line ∷ rest)
