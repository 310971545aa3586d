-- The tests of the record that a sheet's counts tell: in are the combinations with neither count, those without an outside count are not out, and an
-- either combination of a sound sheet has an either count of 1, so it holds nothing.
use Prim.Native.Nat.{ℕ, ◌^◌, ◌<◌}
use mathlib.Core.Path.{◌≡◌, refl, sym, ◌∙◌}
use mathlib.Core.Bool.{Bool, true, false, not, cond, ◌&&◌}
use native.Mathlib.Omega.{arith}
use lib.Dec.{eqb, ltb}
use borrow.Author.Tests.{ltb-true, eqb-true, eqb-false, not-true}
use Rattle.ground.proofs.Cases.{and_left, and_right}
use Rattle.classes.specs.Standings.{is_in, is_out, is_either}
use Rattle.classes.specs.Sound.{CountsSound}
use Rattle.classes.specs.declared.Standing.{Standing}
use Rattle.classes.specs.declared.Standing.TheVariants.{In, Out, Either}
use Rattle.sheet.specs.Record.{Record, in_class, not_out, outside_counts, either_counts}
use Rattle.sheet.specs.Sound.{own_in, TimesSound, record_of}
use Rattle.sheet.specs.declared.Sheet.{Sheet}

-- of any record: what a list must cover it may cover

is_in_not_out : (s : Standing) → is_in s ≡ true → not (is_out s) ≡ true
is_in_not_out In e = refl
is_in_not_out Out e = e
is_in_not_out Either e = refl

pub in-not-out : (r : Record) (c : ℕ) → in_class r c ≡ true → not_out r c ≡ true
in-not-out r c = is_in_not_out (r.standing c)

-- the standing by three tests: a combination, without an outside count, without an either count
abbrev standing_by : (low x y : Bool) → Standing
standing_by low x y = cond low (cond x (cond y In Either) Out) Out

by_in : (low x y : Bool) → is_in (standing_by low x y) ≡ (low && (x && y))
by_in false x y = refl
by_in true false y = refl
by_in true true false = refl
by_in true true true = refl

by_not_out : (low x y : Bool) → not (is_out (standing_by low x y)) ≡ (low && x)
by_not_out false x y = refl
by_not_out true false y = refl
by_not_out true true false = refl
by_not_out true true true = refl

by_either : (low x y : Bool) → is_either (standing_by low x y) ≡ (low && (x && not y))
by_either false x y = refl
by_either true false y = refl
by_either true true false = refl
by_either true true true = refl

module _ (s : Sheet) (c : ℕ) where
  abbrev low : Bool
  low = ltb c (2 ^ s.marks)

  abbrev no_out : Bool
  no_out = eqb (own_in outside_counts s c) 0

  abbrev no_either : Bool
  no_either = eqb (own_in either_counts s c) 0

  pub told_in : in_class (record_of s) c ≡ (low && (no_out && no_either))
  told_in = by_in low no_out no_either

  pub told_not_out : not_out (record_of s) c ≡ (low && no_out)
  told_not_out = by_not_out low no_out no_either

  -- nothing but a combination is in, nor may a list cover anything else

  pub not_out_low : not_out (record_of s) c ≡ true → c < 2 ^ s.marks
  not_out_low e = ltb-true c (2 ^ s.marks) (and_left low no_out (sym told_not_out ∙ e))

  pub in-low : in_class (record_of s) c ≡ true → c < 2 ^ s.marks
  in-low e = not_out_low (in-not-out (record_of s) c e)

  pub either_nothing : CountsSound s.marks s.outside s.either → TimesSound s.marks s.outside s.either s.held
      → is_either ((record_of s).standing c) ≡ true → (record_of s).times c ≡ 0
  either_nothing class times e =
      let e : (low && (no_out && not no_either)) ≡ true = sym (by_either low no_out no_either) ∙ e in
      let l = ltb-true c (2 ^ s.marks) (and_left low _ e) in
      let counts : (no_out && not no_either) ≡ true = and_right low _ e in
      let o = eqb-true (own_in outside_counts s c) 0 (and_left no_out _ counts) in
      let n = eqb-false (own_in either_counts s c) 0 (not-true _ (and_right no_out _ counts)) in
      let one : own_in either_counts s c ≡ 1 = omega (arith, class.tells c l) in
      times.apart c l (rw (o, one))
