-- Reading a stored form (01, 'Stored form'; 02, Q-6 and Q-7): which field comes next, how each is judged once complete, and what a run over the bytes gives.
-- Largest marks and what follows in the form are parameters.
use Rattle.std.specs.Prelude.{ℕ, zero, suc, ◌+◌, ◌*◌, ◌^◌, ◌≤◌, ◌<◌, cond, ◌&&◌, ◌≡◌, List, [], ◌∷◌, length, get_or, take, drop, leb, ltb}
use Rattle.profiles.specs.Profiles.{may_follow, followed, count_ok}
use Rattle.sheet.specs.Limits.{marks_ok}
use Rattle.sheet.specs.Record.{Record, with_profile, Obeys, opened}
use Rattle.stored.specs.Sections.{Rest, nothing, profile, more, sections, bytes_behind, takes, held_in, may_stand, added}
use Rattle.stored.specs.declared.Layout.{Layout}
use Rattle.stored.specs.declared.Layout.TheVariants.{Today}
use Rattle.stored.specs.declared.Section.{Section}

-- each is a byte: what is read is any list of these
abbrev pub Bytes : List ℕ → Type 0
Bytes l = (i : ℕ) → get_or l i 0 < 256

-- the number in some bytes, low byte first
unfoldable pub number_in : List ℕ → ℕ
number_in [] = 0
number_in (b ∷ l) = b + number_in l * 256

-- The field that is due: the marks, with all that follows them; or, of a section s with `rest` behind it, its count, a combination, or the number behind the
-- combination c; or, of a profile that begins at the offset `start`, the count of its groups, or a group. r is what was read before. `left` more
-- combinations or groups follow, and `low` is the least that may stand there (one above the one before).
pub data Due : Type 0 where
  marks : (rest : Rest) → Due
  count : (s : Section) (rest : Rest) (r : Record) → Due
  combination : (s : Section) (rest : Rest) (r : Record) (left low : ℕ) → Due
  behind : (s : Section) (rest : Rest) (r : Record) (left c : ℕ) → Due
  groups : (r : Record) (start : ℕ) → Due
  group : (r : Record) (start left : ℕ) → Due

-- how many bytes it has; a field of none is complete at once, and its number is 0
abbrev pub width : Due → ℕ
width (marks rest) = 1
width (count s rest r) = 2
width (combination s rest r left low) = 1
width (behind s rest r left c) = bytes_behind s
width (groups r start) = 2
width (group r start left) = 1

-- what follows: a field, or a profile if there are bytes left, or the end of a profile that began at an offset, or that of all, or the field was wrong
pub data Next : Type 0 where
  due : Due → Next
  perhaps : Record → Next
  complete : (r : Record) (start : ℕ) → Next
  end : Record → Next
  wrong : (number : ℕ) → Next

abbrev pub rest_due : Rest → Record → Next
rest_due nothing r = end r
rest_due profile r = perhaps r
rest_due (more s rest) r = due (count s rest r)

-- n more combinations of a section, and then what follows it
abbrev pub entries_due : Section → Rest → Record → (n low : ℕ) → Next
entries_due s rest r zero low = rest_due rest r
entries_due s rest r (suc left) low = due (combination s rest r left low)

-- n more groups
abbrev pub groups_due : Record → (start n : ℕ) → Next
groups_due r start zero = complete r start
groups_due r start (suc left) = due (group r start left)

-- Each field judged by its number. m wrong is 1. Otherwise 10: a count above 2^m, a combination not below 2^m or not above the one before or not taken, or
-- a number that may not stand behind it, groups that are not one or two, or a group that may not follow those before it.
unfoldable pub judge : ℕ → Due → ℕ → Next
judge most (marks rest) m = cond (marks_ok most m) (rest_due rest (opened m)) (wrong 1)
judge most (count s rest r) n = cond (leb n (2 ^ r.marks)) (entries_due s rest r n 0) (wrong 10)
judge most (combination s rest r left low) c = cond (leb low c && (ltb c (2 ^ r.marks) && takes s r c)) (due (behind s rest r left c)) (wrong 10)
judge most (behind s rest r left c) x = cond (may_stand s (held_in r) x) (entries_due s rest (added s r c x) left (c + 1)) (wrong 10)
judge most (groups r start) n = cond (count_ok n) (groups_due r start n) (wrong 10)
judge most (group r start left) g = cond (may_follow r.marks r.profile g) (groups_due (with_profile (followed r.profile g) r) start left) (wrong 10)

-- what reading comes to: a record, or a number with a place
pub data Outcome : Type 0 where
  good : Record → Outcome
  refused : (number place : ℕ) → Outcome

-- The fields of the bytes l, of which the first stands at the offset `at`, judged in order, each once complete: the first that is wrong is
-- answered at its offset. Input that ends early is answered at its length, bytes left over at the first. A profile that does not fit the standings is
-- answered where it began, once it is complete.
pub data Run (most : ℕ) : Next → ℕ → List ℕ → Outcome → Type 0 where
  done : {r : Record} {at : ℕ} → Run most (end r) at [] (good r)
  over : {r : Record} {at b : ℕ} {l : List ℕ} → Run most (end r) at (b ∷ l) (refused 10 at)
  without : {r : Record} {at : ℕ} → Run most (perhaps r) at [] (good r)
  with : {r : Record} {at b : ℕ} {l : List ℕ} {o : Outcome} → Run most (due (groups r at)) at (b ∷ l) o → Run most (perhaps r) at (b ∷ l) o
  broken : {r : Record} {start at : ℕ} {l : List ℕ} → (Obeys r → ⊥) → Run most (complete r start) at l (refused 10 start)
  obeyed : {r : Record} {start at : ℕ} {l : List ℕ} {o : Outcome} → Obeys r → Run most (end r) at l o → Run most (complete r start) at l o
  early : {d : Due} {at : ℕ} {l : List ℕ} → length l < width d → Run most (due d) at l (refused 10 (at + length l))
  faulty : {d : Due} {at : ℕ} {l : List ℕ} {n : ℕ} → width d ≤ length l → judge most d (number_in (take (width d) l)) ≡ wrong n → Run most (due d) at l (refused n at)
  field : {d : Due} {at : ℕ} {l : List ℕ} {o : Outcome} → width d ≤ length l → Run most (judge most d (number_in (take (width d) l))) (at + width d) (drop (width d) l) o
      → Run most (due d) at l o

-- all the bytes, by a layout
abbrev pub ReadingBy : Layout → ℕ → List ℕ → Outcome → Type 0
ReadingBy layout most t o = Run most (due (marks (sections layout))) 0 t o

-- by today's
abbrev pub Reading : ℕ → List ℕ → Outcome → Type 0
Reading most t o = ReadingBy Today most t o
