-- What sections that are read tell. f and g are the cursors before them and behind them.
use Rattle.std.specs.Prelude.{ℕ, ◌^◌, ◌≤◌, ◌<◌, ◌≡◌, false, cond, ◌&&◌, List, ◌∷◌, eqb, ltb, length, Result, MatchResult, true}
use Rattle.boxes.specs.Sums.{only}
use Rattle.tables.specs.Tables.{entry}
use Rattle.classes.specs.declared.Standing.TheVariants as standing
use Rattle.refusals.specs.Numbers.{number_of, place_of}
use Rattle.refusals.specs.declared.Refusal.{Refusal}
use Rattle.refusals.specs.declared.Refusal.TheVariants.{Marks, Unreadable}
use Rattle.sheet.specs.Limits.{most_marks, most_held, marks_ok}
use Rattle.sheet.specs.Record.{Record, with_standing, with_times}
use Rattle.stored.specs.Sections.{Rest, stands_in, takes, held_in}
use Rattle.stored.specs.Fields.{Next, due, count, rest_due, entries_due, Outcome, refused, Run}
use Rattle.stored.specs.declared.Section.{Section}
use Rattle.stored.specs.declared.Section.TheVariants.{Class, Either, Held}
use Rattle.sections.specs.declared.form.Form.{Form}
use Rattle.sections.specs.declared.fields.Fields.{Fields}
use Rattle.sections.specs.Places.{offset_of, Behind}

-- the run over the bytes from one field leads to another
pub record Leads (s : Next) (f : Fields) (u : Next) (g : Fields) : Type 0 where
  pub on : (o : Outcome) → Run most_marks u (offset_of g) g.rest.now o → Run most_marks s (offset_of f) f.rest.now o

-- the run from a field is refused with the number of a refusal, and its place
pub record Stops (s : Next) (f : Fields) (e : Refusal) : Type 0 where
  pub run : Run most_marks s (offset_of f) f.rest.now (refused (number_of e) (place_of e))

-- of a section: the least number behind a combination, and the most that a combination has of its own
abbrev pub least : Section → ℕ
least Class = 0
least Either = 0
least Held = 1

abbrev pub most_own : Section → ℕ
most_own Class = 1
most_own Either = 1
most_own Held = most_held

-- what a combination has in a section with this number behind it
abbrev pub has_in : Section → ℕ → ℕ
has_in Class x = 1
has_in Either x = 1
has_in Held x = x

-- the record that has in a section what the combinations have in it: of this standing where that is not 0, or these seconds
abbrev pub with_own : Section → (ℕ → ℕ) → Record → Record
with_own Class f r = with_standing (λ c. cond (ltb c (2 ^ r.marks) && ltb 0 (f c)) standing.In (r.standing c)) r
with_own Either f r = with_standing (λ c. cond (ltb c (2 ^ r.marks) && ltb 0 (f c)) standing.Either (r.standing c)) r
with_own Held f r = with_times (λ c. only (ltb c (2 ^ r.marks)) (f c)) r

-- what can be read before a section: nothing of it, nothing held, and `barred` tells what it does not take
pub record ReadBefore (s : Section) (m : ℕ) (barred : List ℕ) (r : Record) : Type 0 where
  pub marks : r.marks ≡ m
  pub none : (c : ℕ) → stands_in s r c ≡ false
  pub nothing_held : held_in r ≡ 0
  pub taken : (c : ℕ) → c < 2 ^ m → takes s r c ≡ eqb (entry barred c) 0

-- What was read of a section up to the cursor g. The run leads there from `from`, whatever was read before it and whatever follows.
pub record Got (s : Section) (m : ℕ) (barred : List ℕ) (from to : Rest → Record → Next) (f g : Fields) (own : List ℕ) : Type 0 where
  pub behind : Behind f g
  pub long : 2 ^ m ≤ length own
  pub most : (c : ℕ) → c < 2 ^ m → entry own c ≤ most_own s
  pub leads : (rest : Rest) (r : Record) → ReadBefore s m barred r → Leads (from rest r) f (to rest (with_own s (entry own) r)) g

-- what is refused, whatever was read before it and whatever follows
pub record Missed (s : Section) (m : ℕ) (barred : List ℕ) (from : Rest → Record → Next) (f : Fields) (e : Refusal) : Type 0 where
  pub stops : (rest : Rest) (r : Record) → ReadBefore s m barred r → Stops (from rest r) f e

-- a part of the form: read, or refused with 10 and the place; the form has the same marks behind it
abbrev pub PartRead : Section → List ℕ → (Rest → Record → Next) → Form → Form → Result (List ℕ) Refusal → Type 0
PartRead s barred from f g result =
    MatchResult result (λ own. (g.marks ≡ f.marks) × Got s f.marks barred from rest_due f.fields g.fields own) (λ e. Missed s f.marks barred from f.fields e)

-- the n combinations behind a count, and the whole section
abbrev pub EntriesRead : Section → List ℕ → ℕ → Form → Form → Result (List ℕ) Refusal → Type 0
EntriesRead s barred n f g result = PartRead s barred (λ (rest : Rest) (r : Record). entries_due s rest r n 0) f g result

abbrev pub SectionRead : Section → List ℕ → Form → Form → Result (List ℕ) Refusal → Type 0
SectionRead s barred f g result = PartRead s barred (λ (rest : Rest) (r : Record). due (count s rest r)) f g result

-- a form t that begins with marks that a sheet may have, behind those
pub record Begun (t : List ℕ) (f : Form) : Type 0 where
  pub bytes : t ≡ f.marks ∷ f.fields.rest.now
  pub size : f.fields.size ≡ length t
  pub ok : marks_ok most_marks f.marks ≡ true

-- one that has no marks, or begins with others
pub data NotBegun (t : List ℕ) : Refusal → Type 0 where
  empty : length t ≡ 0 → NotBegun t (Unreadable 0)
  others : (m : ℕ) (l : List ℕ) → t ≡ m ∷ l → marks_ok most_marks m ≡ false → NotBegun t Marks

abbrev pub MarksRead : List ℕ → Result Form Refusal → Type 0
MarksRead t result = MatchResult result (λ f. Begun t f) (λ e. NotBegun t e)
