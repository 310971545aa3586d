-- The seconds of the printed lines add up to the class total: no two lines share a combination, together they are the class and some either combinations,
-- and those hold nothing.
use Prim.Native.Nat.{ℕ, ◌+◌, ◌^◌}
use mathlib.Core.Path.{◌≡◌, refl, ◌∙◌, ap₂}
use mathlib.Core.Bool.{Bool, true, false, not}
use mathlib.Core.List.{List, [], ◌∷◌}
use Rattle.boxes.specs.Boxes.{sum_in}
use Rattle.boxes.specs.Sums.{sum_over, only}
use Rattle.ground.proofs.Cases.{clash}
use Rattle.boxes.proofs.Sums.{sum_ext}
use Rattle.lists.specs.Lists.{Fits, Boxes, covered}
use Rattle.lists.proofs.Count.{lines_sum}
use Rattle.tables.specs.Tables.{entry, own, Sums}
use Rattle.classes.specs.Standings.{is_in, is_out, is_either}
use Rattle.classes.specs.Sound.{ClassSound}
use Rattle.classes.specs.declared.Standing.{Standing}
use Rattle.classes.specs.declared.Standing.TheVariants.{In, Out, Either}
use Rattle.sheet.specs.Record.{Record, in_class, not_out}
use Rattle.sheet.specs.Sound.{TimesSound, record_of}
use Rattle.sheet.specs.declared.Sheet.{Sheet}
use Rattle.sheet.proofs.Told.{either_nothing}
use Rattle.totals.specs.Totals.{total_of}

-- a combination of this standing that holds x, covered or not, adds what it adds to the total
covered_adds : (s : Standing) (cov : Bool) (x : ℕ) → (is_in s ≡ true → cov ≡ true) → (cov ≡ true → not (is_out s) ≡ true) → (is_either s ≡ true → x ≡ 0)
    → only cov x ≡ only (is_in s) x
covered_adds In cov x covers inside nothing = rw (covers refl)
covered_adds Out true x covers inside nothing = clash (inside refl) refl
covered_adds Out false x covers inside nothing = refl
covered_adds Either true x covers inside nothing = nothing refl
covered_adds Either false x covers inside nothing = refl

-- of any record whose either combinations hold nothing: the sums over the boxes of a fitting list
pub lines_total : (r : Record) (l : List ℕ) → ((c : ℕ) → is_either (r.standing c) ≡ true → r.times c ≡ 0) → Fits r.marks (in_class r) (not_out r) l
    → sum_over l (λ b. sum_in r.marks b r.times) ≡ total_of r
lines_total r l nothing f =
    lines_sum r.marks l r.times f.apart
    ∙ sum_ext (2 ^ r.marks) _ _ (λ c lc. covered_adds (r.standing c) (covered r.marks l c) (r.times c) (f.covers c) (f.inside c) (nothing c))

kept_over : (m : ℕ) (t : List ℕ) → Sums m (entry t) → (l : List ℕ) → Boxes m l → sum_over l (entry t) ≡ sum_over l (λ b. sum_in m b (own m t))
unfolding sum_over Boxes
kept_over m t sums [] b = refl
kept_over m t sums (b ∷ l) i = ap₂ (λ (x y : ℕ). x + y) (sums b i.0) (kept_over m t sums l i.1)

-- of a sound sheet: what its time table keeps of the lines
pub kept_total : (s : Sheet) (l : List ℕ) → ClassSound s.marks s.profile s.outside s.either
    → TimesSound s.marks s.outside s.either s.held
    → Fits s.marks (in_class (record_of s)) (not_out (record_of s)) l → sum_over l (entry s.held) ≡ total_of (record_of s)
kept_total s l class times f =
    kept_over s.marks s.held times.sums l f.boxes ∙ lines_total (record_of s) l (λ c. either_nothing s c class.counts times) f
