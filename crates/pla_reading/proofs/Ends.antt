-- The end of the input: which answer what is kept comes to, and the sheet of the set of combinations that the cubes have.
use Prim.Native.Nat.{ℕ, ◌+◌, ◌^◌, ◌≤◌, ◌<◌}
use mathlib.Core.Path.{◌≡◌, refl, sym, ap, subst, ◌∙◌}
use mathlib.Core.Bool.{Bool, true, false, not, cond, and-false}
use mathlib.Core.List.{List}
use native.Mathlib.Omega.{arith}
use Rattle.std.specs.Prelude.{Option, None, Some}
use lib.Dec.{eqb, ltb}
use lib.ListN.{length, replicate}
use borrow.Author.Tests.{eq-eqb, ne_eqb, lt-ltb, le-ltb}
use Rattle.ground.proofs.Cases.{if, same_or}
use Rattle.boxes.specs.Sums.{only}
use Rattle.tables.specs.Tables.{entry}
use Rattle.lists.specs.Lists.{covered}
use Rattle.sets.specs.Sets.{has, Outs}
use Rattle.profiles.specs.declared.Profile.TheVariants.{None as NoProfile}
use Rattle.classes.specs.Standings.{outs, eithers}
use Rattle.classes.specs.declared.Standing.TheVariants.{In, Out}
use Rattle.sheet.specs.Limits.{most_marks, entries}
use Rattle.sheet.specs.Record.{Record, outside_counts, either_counts, quantity, sheet_from, sheet_of}
use Rattle.sheet.specs.Parts.{Addable}
use Rattle.sheet.specs.declared.Sheet.{Sheet}
use Rattle.sheet.proofs.Opening.{combinations_fit, same-entry, ones_addable, sheet_same}
use Rattle.stored.specs.Fields.{Outcome, good, refused}
use Rattle.pla.specs.Reading.{Count, uncounted, counted, Said as Saids, drawn_by, agreed, comes_to}
use Rattle.pla_lines.specs.Parts.{capped}
use Rattle.pla_reading.specs.declared.said.Counted.{Counted}
use Rattle.pla_reading.specs.declared.said.Said.{Said}
use Rattle.pla_reading.specs.Parts.{KeepsCount, Keeps, miscount}

-- the record, or 10 at the place of what miscounts
abbrev by_place : Record → Option ℕ → Outcome
by_place r None = good r
by_place r (Some p) = refused 10 p

-- a number that was capped is the number of the cubes exactly if the number is
capped_same : (n k : ℕ) → k + 1 < 2 ^ 64 → eqb (capped n) k ≡ eqb n k
capped_same n k l =
    same_or n k
    (λ e. eq-eqb (capped n) k (omega (arith, e, l)) ∙ sym (eq-eqb n k e))
    (λ d. ne_eqb (capped n) k (λ e. d (omega (arith, e, l))) ∙ sym (ne_eqb n k d))

agreeing : (r : Record) (n p k : ℕ) → k + 1 < 2 ^ 64 → agreed r k (counted n p) ≡ by_place r (miscount (Some (record { number = capped n; at = p })) k)
agreeing r n p k l = if (eqb n k) (λ y. rw (y, capped_same n k l ∙ y)) (λ d. rw (d, capped_same n k l ∙ d))

-- what a kept `.p` line makes of the number of the cubes
counts : (r : Record) (c : Count) (k : ℕ) (o : Option Counted) → KeepsCount c o → k + 1 < 2 ^ 64 → agreed r k c ≡ by_place r (miscount o k)
counts r uncounted k o e l = ap (λ (x : Option Counted). by_place r (miscount x k)) (sym e)
counts r (counted n p) k o e l = agreeing r n p k l ∙ ap (λ (x : Option Counted). by_place r (miscount x k)) (sym e)

module _ (s : Saids) (k : Said) (size : ℕ) (kept : Keeps s k) where
  pub no_inputs : k.inputs ≡ 0 → comes_to size s ≡ refused 10 size
  no_inputs z = rw (le-ltb 0 s.inputs (omega (arith, kept.inputs, z)))

  pub no_output : k.output ≡ false → comes_to size s ≡ refused 10 size
  no_output e = rw (sym kept.output ∙ e, and-false (ltb 0 s.inputs))

  module _ (some : k.inputs ≡ 0 → ⊥) (came : k.output ≡ true) (few : k.cubes + 1 < 2 ^ 64) where
    counted_all : comes_to size s ≡ agreed (drawn_by s) (length s.cubes) s.count
    counted_all = let n : k.inputs ≡ 0 → ⊥ = some in rw (lt-ltb 0 s.inputs (omega (arith, kept.inputs)), sym kept.output ∙ came)

    told : comes_to size s ≡ by_place (drawn_by s) (miscount k.count k.cubes)
    told =
        counted_all ∙ ap (λ (n : ℕ). agreed (drawn_by s) n s.count) (sym kept.cubes)
        ∙ counts (drawn_by s) s.count k.cubes k.count kept.count few

    pub wrong_count : (p : ℕ) → miscount k.count k.cubes ≡ Some p → comes_to size s ≡ refused 10 p
    wrong_count p w = told ∙ ap (by_place (drawn_by s)) w

    pub right_count : miscount k.count k.cubes ≡ None → comes_to size s ≡ good (drawn_by s)
    right_count w = told ∙ ap (by_place (drawn_by s)) w

-- the outs of a set can be added up, and so can nothing

outs-one : (b : Bool) → only (not b) 1 ≤ 1
outs-one true = omega arith
outs-one false = omega arith

pub outs_addable : (m class : ℕ) (outs : List ℕ) → m ≤ most_marks → Outs class outs → Addable m outs
outs_addable m class outs few is =
    ones_addable m outs few (omega (arith, combinations_fit m few, is.0))
    (λ c l. subst (λ (x : ℕ). x ≤ 1) (sym (is.1 c (omega (arith, combinations_fit m few, l)))) (outs-one (has class c)))

-- what a combination adds that is in the class, or else out
outs_alone : (b : Bool) → only (not b) 1 ≡ outs (cond b In Out)
outs_alone true = refl
outs_alone false = refl

eithers_alone : (b : Bool) → eithers (cond b In Out) ≡ 0
eithers_alone true = refl
eithers_alone false = refl

-- the sheet that is worked out from them
pub drawn_sheet : (s : Saids) (k : Said) (outs : List ℕ) {sheet : Sheet} → Keeps s k → Outs k.class outs
    → sheet ≡ sheet_from entries k.inputs NoProfile (entry outs) (entry (replicate 32 0)) (entry (replicate 32 0)) → ◌≡◌ {A = Sheet} sheet (sheet_of entries (drawn_by s))
drawn_sheet s k outs kept is e =
    let m = s.inputs in
    let none = entry (replicate 32 0) in
    let zero : (c : ℕ) → c < 2 ^ m → none c ≡ 0 = λ c l. same-entry m 0 c kept.most l in
    e ∙ ap (λ (x : ℕ). sheet_from entries x NoProfile (entry outs) none none) kept.inputs
    ∙ sheet_same entries m NoProfile (entry outs) (quantity outside_counts (drawn_by s)) none (quantity either_counts (drawn_by s)) none (λ c. 0)
    (λ c l. is.1 c (omega (arith, combinations_fit m kept.most, l)) ∙ ap (λ (f : ℕ → Bool). only (not (f c)) 1) kept.class ∙ outs_alone (covered m s.cubes c))
    (λ c l. zero c l ∙ sym (eithers_alone (covered m s.cubes c)))
    zero
