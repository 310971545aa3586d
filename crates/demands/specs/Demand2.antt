-- DEMAND 2. The printed lines are a shortest orthogonal disjunctive normal form of the class, and among the shortest the first in our order; their
-- seconds add up to the class total. That they are exactly the class means: they contain every combination that is in, and none that is out (02, Q-6).
-- They are at most `most_lines`, and room for so many is what `list` asks for (02, Q-9).
use Rattle.std.specs.Prelude.{ℕ, ◌<◌, ◌≤◌, ◌≡◌, Bool, List, ◌++◌, eqb, length, drop}
use Rattle.ground.specs.Decides.{Decides}
use Rattle.boxes.specs.Sums.{sum_over}
use Rattle.tables.specs.Tables.{entry}
use Rattle.lists.specs.Lists.{covered, Fits, AtLeast, Small, LowRising, FirstShortest, most_lines}
use Rattle.lists.specs.Pottosin.{SmallestMaximal}
use Rattle.sheet.specs.Limits.{most_marks}
use Rattle.sheet.specs.Record.{Record, in_class, not_out, NoneEither}
use Rattle.sheet.specs.Sound.{ClassReady, record_of}
use Rattle.sheet.specs.declared.Sheet.{Sheet}
use Rattle.sheet.specs.Told.{Value}
use Rattle.listing.specs.Listing.{Listed}
use Rattle.totals.specs.Totals.{total_of, Totalled}
use Rattle.stored.specs.Fields.{Bytes}
use Rattle.lent.specs.Entries.{Holds, Lends}
use Rattle.lent.specs.declared.Reply.{Reply}

-- the lines of a record
pub record Lines (r : Record) (l : List ℕ) : Type 0 where
  -- no two share a combination, together they contain the class and nothing that is out, no such list is shorter, and it is the first of the shortest
  pub right : FirstShortest r.marks (in_class r) (not_out r) l
  -- it is one list
  pub one : (k : List ℕ) → FirstShortest r.marks (in_class r) (not_out r) k → k ≡ l
  -- where no combination is either, together they are exactly the class,
  pub exactly : NoneEither r → (c : ℕ) → covered r.marks l c ≡ in_class r c
  -- in rising order of each line's lowest combination,
  pub rising : NoneEither r → LowRising r.marks l
  -- and a smallest maximal independent set in the graph of all boxes inside the class: Pottosin's form
  pub form : NoneEither r → SmallestMaximal r.marks (in_class r) l

-- what `list` gave of the sheet s, in the area lent for it
pub record Printed (s : Sheet) (area : List ℕ) (v : Value) (later : List ℕ) : Type 0 where
  pub lines : List ℕ
  pub of_class : Lines (record_of s) lines
  pub size : v.value ≡ length lines
  pub stands : later ≡ lines ++ drop (length lines) area
  -- what the sheet keeps of the lines adds up to what `total` answers
  pub seconds : {t : Value} → Totalled most_marks s t → t.number ≡ 0 → sum_over lines (entry s.held) ≡ t.value

pub record PrintedIn (t area : List ℕ) (r : Reply) (later : List ℕ) : Type 0 where
  pub sheet : Sheet
  pub held_in : Holds t sheet
  pub printed : Printed sheet area (record { number = r.answer; value = r.value }) later

pub record Demand2 : Type 0 where
  -- a fitting list always exists, whatever is in, out and either, and whatever the profile,
  pub exists : (r : Record) → Small r.marks (in_class r) → (l : List ℕ) × Fits r.marks (in_class r) (not_out r) l
  -- also of every sheet, be it sound or not;
  pub of_sheet : (s : Sheet) → (l : List ℕ) × Fits s.marks (in_class (record_of s)) (not_out (record_of s)) l
  -- no shortest one has more than 2^(m - 1) lines;
  pub few : (r : Record) {l : List ℕ} → Small r.marks (in_class r) → FirstShortest r.marks (in_class r) (not_out r) l → length l ≤ most_lines r.marks
  -- of every number of marks there is a class that needs so many;
  pub reached : (m : ℕ) → (class : ℕ → Bool) × Small m class × AtLeast m class class (most_lines m)
  -- and a sound class gets its list wherever there is room for these, and 5 exactly where there is not
  pub given : {s : Sheet} {area later : List ℕ} {v : Value} → Listed most_marks s area v later
      → ClassReady most_marks s → most_lines s.marks ≤ length area → v.number ≡ 0
  pub five : {s : Sheet} {area later : List ℕ} {v : Value} → Listed most_marks s area v later
      → ClassReady most_marks s → Decides (eqb v.number 5) (length area < most_lines s.marks)
  pub printed : {s : Sheet} {area later : List ℕ} {v : Value} → Listed most_marks s area v later → v.number ≡ 0 → Printed s area v later
  -- and through C, of the sheet that the lent bytes hold
  pub entry : {t area later : List ℕ} {r : Reply} → Lends (Listed most_marks) t area r later → r.answer ≡ 0 → PrintedIn t area r later
  pub entry_five : {t area later : List ℕ} {r : Reply} {s : Sheet} → Bytes t → Holds t s → Lends (Listed most_marks) t area r later
      → Decides (eqb r.answer 5) (length area < most_lines s.marks)
  -- the class total is the seconds held in the class
  pub total : {s : Sheet} {v : Value} → Totalled most_marks s v → v.number ≡ 0 → v.value ≡ total_of (record_of s)
