-- The sections of the stored form (01, 'Stored form'; 02, Q-6 and Q-7): of each, which combinations stand in it, what stands behind one, and what an entry says.
use Rattle.std.specs.Prelude.{ℕ, ◌+◌, ◌^◌, Bool, true, not, ◌&&◌, leb, ltb}
use Rattle.boxes.specs.Sums.{sum}
use Rattle.classes.specs.Standings.{is_in, is_either}
use Rattle.classes.specs.declared.Standing.TheVariants as standing
use Rattle.sheet.specs.Limits.{most_held}
use Rattle.sheet.specs.Record.{Record, with_standing, with_times, updated}
use Rattle.stored.specs.declared.Layout.{Layout}
use Rattle.stored.specs.declared.Layout.TheVariants.{First, Today}
use Rattle.stored.specs.declared.Section.{Section}
use Rattle.stored.specs.declared.Section.TheVariants.{Class, Either, Held}

-- what follows in a form: nothing more, or a profile if the sheet has one, or a section and what follows it
pub data Rest : Type 0 where
  nothing : Rest
  profile : Rest
  more : Section → Rest → Rest

-- the sections in their order: 01's form has no either combinations and no profile
abbrev pub sections : Layout → Rest
sections First = more Class (more Held nothing)
sections Today = more Class (more Either (more Held profile))

-- a combination of the class, or an either one, is one byte; a held one has its seconds behind it, in four
abbrev pub bytes_behind : Section → ℕ
bytes_behind Class = 0
bytes_behind Either = 0
bytes_behind Held = 4

-- the combinations of a record that stand in a section, and the number behind each
abbrev pub stands_in : Section → Record → ℕ → Bool
stands_in Class r c = is_in (r.standing c)
stands_in Either r c = is_either (r.standing c)
stands_in Held r c = ltb 0 (r.times c)

abbrev pub number_behind : Section → Record → ℕ → ℕ
number_behind Class r c = 0
number_behind Either r c = 0
number_behind Held r c = r.times c

-- whether a section takes a combination, by what was read before: an either one is not in the class section, and a held one is not either
abbrev pub takes : Section → Record → ℕ → Bool
takes Class r c = true
takes Either r c = not (is_in (r.standing c))
takes Held r c = not (is_either (r.standing c))

-- the seconds that a record holds in all
abbrev pub held_in : Record → ℕ
held_in r = sum (2 ^ r.marks) r.times

-- Whether a number may stand behind a combination, the sum so far being `sum`: seconds are at least 1, and do not bring it above 4,000,000,000.
abbrev pub may_stand : Section → ℕ → ℕ → Bool
may_stand Class sum x = true
may_stand Either sum x = true
may_stand Held sum s = leb 1 s && leb (sum + s) most_held

-- the record with one more entry: the combination c is in the class, or either, or holds the seconds behind it
abbrev pub added : Section → Record → ℕ → ℕ → Record
added Class r c x = with_standing (updated c standing.In r.standing) r
added Either r c x = with_standing (updated c standing.Either r.standing) r
added Held r c s = with_times (updated c s r.times) r
