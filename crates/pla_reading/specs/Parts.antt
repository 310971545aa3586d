-- What the functions of the reader tell each other: what they keep of the lines that were read, and what a line leads to.
use Rattle.std.specs.Prelude.{ℕ, ◌+◌, ◌^◌, ◌≤◌, ◌<◌, ◌≡◌, Bool, true, false, cond, eqb, [], length, Option, None, Some, Result, Ok, Err}
use Rattle.lists.specs.Lists.{covered}
use Rattle.sets.specs.Sets.{has}
use Rattle.sheet.specs.Limits.{most_marks, entries}
use Rattle.stored.specs.Fields.{refused}
use Rattle.stored.specs.Answers.{read_of}
use Rattle.stored.specs.Told.{Read}
use Rattle.pla.specs.Sayings.{Saying, blank, inputs, output, count, cube, end}
use Rattle.pla.specs.Reading.{Count, uncounted, counted, Said as Saids, comes_to, on, stop, judge}
use Rattle.pla_lines.specs.Parts.{capped}
use Rattle.pla_lines.specs.declared.Heard.{Heard}
use Rattle.pla_lines.specs.declared.Heard.TheVariants.{Blank, Inputs, Output, Count as Counts, Cube, End, Unreadable}
use Rattle.pla_reading.specs.declared.said.Said.{Said}
use Rattle.pla_reading.specs.declared.said.Counted.{Counted}
use Rattle.refusals.specs.declared.Refusal.{Refusal}
use Rattle.refusals.specs.Numbers.{number_of, place_of}

-- the `.p` line as it is kept
abbrev pub KeepsCount : Count → Option Counted → Type 0
KeepsCount uncounted o = o ≡ None
KeepsCount (counted k p) o = o ≡ Some (record { number = capped k; at = p })

-- the lines so far have said s, which is kept as k
pub record Keeps (s : Saids) (k : Said) : Type 0 where
  pub inputs : k.inputs ≡ s.inputs
  pub most : s.inputs ≤ most_marks
  pub output : k.output ≡ s.output
  pub order : s.output ≡ true → 0 < s.inputs
  pub none : s.inputs ≡ 0 → s.cubes ≡ []
  pub count : KeepsCount s.count k.count
  pub cubes : k.cubes ≡ length s.cubes
  pub class : has k.class ≡ covered s.inputs s.cubes

-- what a line leads to: the lines behind it, with what is kept then; the end of the text; or a refusal, by its number and place
pub data Next : Type 0 where
  On : Said → Next
  Ends : Next
  Refused : ℕ → ℕ → Next

-- as it is answered, and what is kept then

abbrev pub next_of : Result (Unit {0}) Refusal → Said → Next
next_of (Ok _) k = On k
next_of (Err e) k = Refused (number_of e) (place_of e)

abbrev pub judged_of : Result Bool Refusal → Said → Next
judged_of (Ok true) k = On k
judged_of (Ok false) k = Ends
judged_of (Err e) k = Refused (number_of e) (place_of e)

-- the offset of a `.p` line that has another number than that of the cubes
abbrev pub miscount : Option Counted → ℕ → Option ℕ
miscount None cubes = None
miscount (Some c) cubes = cond (eqb c.number cubes) None (Some c.at)

-- what a line at an offset leads to that says x
pub data Leads (s : Saids) (at : ℕ) (x : Saying) : Next → Type 0 where
  goes : {u : Saids} {k : Said} → ((size : ℕ) → judge most_marks size s at x ≡ on u) → length u.cubes ≤ length s.cubes + 1 → Keeps u k → Leads s at x (On k)
  ends : x ≡ end → Leads s at x Ends
  stops : {n p : ℕ} → ((size : ℕ) → judge most_marks size s at x ≡ stop (refused n p)) → Leads s at x (Refused n p)

-- what was heard may be judged: a cube is a box of as many marks as there are inputs, and there is room for one more
abbrev pub InBoxes : ℕ → Heard → Type 0
InBoxes m Blank = Unit {0}
InBoxes m (Inputs v) = Unit {0}
InBoxes m Output = Unit {0}
InBoxes m (Counts v) = Unit {0}
InBoxes m (Cube b) = b < 3 ^ m
InBoxes m End = Unit {0}
InBoxes m Unreadable = Unit {0}

pub record Hearable (k : Said) (h : Heard) : Type 0 where
  pub marks : k.inputs ≤ most_marks
  pub box : InBoxes k.inputs h
  pub few : k.cubes + 1 < 2 ^ 64

-- the same of what is kept: what a line leads to that says x, and one that says a number, which is kept as v

abbrev pub Makes : Said → ℕ → Saying → Next → Type 0
Makes k at x r = (s : Saids) → Keeps s k → Leads s at x r

abbrev pub MakesOf : Said → ℕ → (ℕ → Saying) → ℕ → Next → Type 0
MakesOf k at f v r = (n : ℕ) → v ≡ capped n → Makes k at (f n) r

-- by what was heard
abbrev pub Judged : Said → ℕ → Heard → Next → Type 0
Judged k at Blank r = Makes k at blank r
Judged k at (Inputs v) r = MakesOf k at inputs v r
Judged k at Output r = Makes k at output r
Judged k at (Counts v) r = MakesOf k at count v r
Judged k at (Cube b) r = Makes k at (cube b) r
Judged k at End r = Makes k at end r
Judged k at Unreadable r = r ≡ Refused 10 at

-- and the end of an input of `size` bytes
abbrev pub Comes : Said → ℕ → Read → Type 0
Comes k size r = (s : Saids) → Keeps s k → r ≡ read_of entries (comes_to size s)
