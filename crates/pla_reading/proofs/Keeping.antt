-- What is kept of the lines that were read, line by line: a law for each way that a line can be judged.
use Prim.Native.Nat.{ℕ, ◌+◌, ◌^◌, ◌≤◌, ◌<◌}
use mathlib.Core.Path.{◌≡◌, refl, sym, ap, ap₂, subst, fun_ext, ◌∙◌}
use mathlib.Core.Bool.{Bool, true, false, ◌&&◌, ◌||◌, and-false}
use mathlib.Core.List.{List, [], ◌∷◌, ◌++◌}
use native.Mathlib.Omega.{arith}
use lib.Bits.{bit_or}
use Rattle.std.specs.Prelude.{Option, None, Some, is_some}
use lib.Dec.{leb, ltb}
use lib.ListN.{length, length-append}
use borrow.Author.Tests.{eq-eqb, ne_eqb, lt-ltb, le-ltb, lt-leb}
use Rattle.ground.proofs.Cases.{clash, below_or}
use Rattle.lists.specs.Lists.{covered}
use Rattle.lists.proofs.Count.{covered_last}
use Rattle.sets.specs.Sets.{value_at, AllSets}
use Rattle.sets.proofs.Bits.{has-zero, has-or}
use Rattle.sheet.specs.Limits.{most_marks, marks_ok}
use Rattle.sheet.proofs.Limits.{marks_most}
use Rattle.stored.specs.Fields.{refused}
use Rattle.pla.specs.Sayings.{inputs, output, count, cube}
use Rattle.pla.specs.Reading.{Count, uncounted, counted, is_counted, Said as Saids, nothing_said, on, stop, judge}
use Rattle.pla_lines.specs.Parts.{capped}
use Rattle.pla_reading.specs.declared.said.Counted.{Counted}
use Rattle.pla_reading.specs.declared.said.Said.{Said}
use Rattle.pla_reading.specs.Parts.{On, Refused, KeepsCount, Keeps, Leads, goes, stops}

nothing_covered : (m c : ℕ) → covered m [] c ≡ false
unfolding covered
nothing_covered m c = refl

pub nothing_kept : Keeps nothing_said (record { inputs = 0; output = false; count = None; cubes = 0; class = 0 })
nothing_kept = record {
  inputs = refl;
  most = omega arith;
  output = refl;
  order = λ e. clash e refl;
  none = λ e. refl;
  count = refl;
  cubes = refl;
  class = fun_ext (λ c. has-zero c ∙ sym (nothing_covered 0 c));
}

-- a number of 64 bits, capped or not, is 1 to 5 exactly if the number is
marks_capped : (n : ℕ) → marks_ok most_marks (capped n) ≡ marks_ok most_marks n
unfolding marks_ok
marks_capped n =
    below_or n 18446744073709551616
    (λ h. let e : capped n ≡ n = omega arith in ap (λ (x : ℕ). leb 1 x && leb x most_marks) e)
    (λ h. rw (lt-leb (capped n) 5 (omega arith), lt-leb n 5 (omega arith), and-false (leb 1 (capped n)), and-false (leb 1 n)))

-- nothing is told otherwise of a kept `.p` line
count_told : (c : Count) (o : Option Counted) → KeepsCount c o → is_some o ≡ is_counted c
count_told uncounted o e = ap is_some e
count_told (counted k at) o e = ap is_some e

module _ (s : Saids) (k : Said) (at : ℕ) (kept : Keeps s k) where
  -- `.i`

  pub inputs_again : (n : ℕ) → (k.inputs ≡ 0 → ⊥) → Leads s at (inputs n) (Refused 10 at)
  inputs_again n d = stops (refused_at n)
    where
      refused_at : (n size : ℕ) → judge most_marks size s at (inputs n) ≡ stop (refused 10 at)
      refused_at n size = rw (ne_eqb s.inputs 0 (λ e. d (kept.inputs ∙ e)))

  pub inputs_wrong : (n v : ℕ) → k.inputs ≡ 0 → v ≡ capped n → marks_ok most_marks v ≡ false → Leads s at (inputs n) (Refused 1 0)
  inputs_wrong n v z e w = stops wrong
    where
      wrong : (size : ℕ) → judge most_marks size s at (inputs n) ≡ stop (refused 1 0)
      wrong size = rw (eq-eqb s.inputs 0 (sym kept.inputs ∙ z), sym (marks_capped n) ∙ ap (marks_ok most_marks) (sym e) ∙ w)

  pub inputs_kept : (n v : ℕ) → k.inputs ≡ 0 → v ≡ capped n → marks_ok most_marks v ≡ true
      → Leads s at (inputs n) (On (record { inputs = v; output = k.output; count = k.count; cubes = k.cubes; class = k.class }))
  inputs_kept n v z e w = goes right (omega arith) (record {
    inputs = v_is;
    most = subst (λ (x : ℕ). x ≤ most_marks) v_is few;
    output = kept.output;
    order = λ o. absurd (omega (arith, none, kept.order o));
    none = λ o. kept.none none;
    count = kept.count;
    cubes = kept.cubes;
    class = kept.class ∙ fun_ext (λ c. ap (λ (l : List ℕ). covered s.inputs l c) (kept.none none) ∙ nothing_covered s.inputs c
        ∙ sym (ap (λ (l : List ℕ). covered n l c) (kept.none none) ∙ nothing_covered n c));
  })
    where
      none : s.inputs ≡ 0
      none = sym kept.inputs ∙ z

      few : v ≤ most_marks
      few = marks_most most_marks v w

      v_is : v ≡ n
      v_is = omega (arith, e, few)

      right : (size : ℕ) → judge most_marks size s at (inputs n) ≡ on (record { inputs = n; output = s.output; count = s.count; cubes = s.cubes })
      right size = rw (eq-eqb s.inputs 0 none, ap (marks_ok most_marks) (sym v_is) ∙ w)

  -- `.o 1`

  pub output_early : k.inputs ≡ 0 → Leads s at output (Refused 10 at)
  output_early z = stops early
    where
      early : (size : ℕ) → judge most_marks size s at output ≡ stop (refused 10 at)
      early size = rw (le-ltb 0 s.inputs (omega (arith, kept.inputs, z)))

  pub output_again : k.output ≡ true → Leads s at output (Refused 10 at)
  output_again e = stops again
    where
      again : (size : ℕ) → judge most_marks size s at output ≡ stop (refused 10 at)
      again size = rw (sym kept.output ∙ e, and-false (ltb 0 s.inputs))

  pub output_kept : (k.inputs ≡ 0 → ⊥) → k.output ≡ false
      → Leads s at output (On (record { inputs = k.inputs; output = true; count = k.count; cubes = k.cubes; class = k.class }))
  output_kept d e = goes right (omega arith) (record {
    inputs = kept.inputs;
    most = kept.most;
    output = refl;
    order = λ o. some;
    none = kept.none;
    count = kept.count;
    cubes = kept.cubes;
    class = kept.class;
  })
    where
      some : 0 < s.inputs
      some = let n : k.inputs ≡ 0 → ⊥ = d in omega (arith, kept.inputs)

      right : (size : ℕ) → judge most_marks size s at output ≡ on (record { inputs = s.inputs; output = true; count = s.count; cubes = s.cubes })
      right size = rw (lt-ltb 0 s.inputs some, sym kept.output ∙ e)

  -- `.p`

  pub count_again : (n : ℕ) → is_some k.count ≡ true → Leads s at (count n) (Refused 10 at)
  count_again n e = stops again
    where
      again : (size : ℕ) → judge most_marks size s at (count n) ≡ stop (refused 10 at)
      again size = rw (sym (count_told s.count k.count kept.count) ∙ e)

  pub count_kept : (n v : ℕ) → is_some k.count ≡ false → v ≡ capped n
      → Leads s at (count n) (On (record { inputs = k.inputs; output = k.output; count = Some (record { number = v; at = at }); cubes = k.cubes; class = k.class }))
  count_kept n v e w = goes right (omega arith) (record {
    inputs = kept.inputs;
    most = kept.most;
    output = kept.output;
    order = kept.order;
    none = kept.none;
    count = ap (λ (x : ℕ). Some (record { number = x; at = at })) w;
    cubes = kept.cubes;
    class = kept.class;
  })
    where
      right : (size : ℕ) → judge most_marks size s at (count n) ≡ on (record { inputs = s.inputs; output = s.output; count = counted n at; cubes = s.cubes })
      right size = rw (sym (count_told s.count k.count kept.count) ∙ e)

  -- a cube

  pub cube_early : (b : ℕ) → k.output ≡ false → Leads s at (cube b) (Refused 10 at)
  cube_early b e = stops early
    where
      early : (size : ℕ) → judge most_marks size s at (cube b) ≡ stop (refused 10 at)
      early size = rw (sym kept.output ∙ e)

  pub cube_kept : (sets : List ℕ) → AllSets sets → (b : ℕ) → b < 3 ^ k.inputs → k.output ≡ true
      → Leads s at (cube b) (On (record { inputs = k.inputs; output = k.output; count = k.count; cubes = k.cubes + 1; class = bit_or k.class (value_at sets b) }))
  cube_kept sets table b l e = goes right fewer (record {
    inputs = kept.inputs;
    most = kept.most;
    output = e;
    order = λ o. some;
    none = λ z. absurd (omega (arith, some, z));
    count = kept.count;
    cubes = one_more;
    class = fun_ext (λ c. has-or c k.class (value_at sets b)
        ∙ ap₂ (λ (x y : Bool). x || y) (ap (λ (f : ℕ → Bool). f c) kept.class) ((table s.inputs kept.most b below).1 c)
        ∙ sym (covered_last s.inputs s.cubes b c));
  })
    where
      some : 0 < s.inputs
      some = kept.order (sym kept.output ∙ e)

      one_more : k.cubes + 1 ≡ length (s.cubes ++ b ∷ [])
      one_more = omega (arith, kept.cubes, length-append s.cubes (b ∷ []))

      fewer : length (s.cubes ++ b ∷ []) ≤ length s.cubes + 1
      fewer = omega (arith, length-append s.cubes (b ∷ []))

      below : b < 3 ^ s.inputs
      below = subst (λ (m : ℕ). b < 3 ^ m) kept.inputs l

      right : (size : ℕ) → judge most_marks size s at (cube b) ≡ on (record { inputs = s.inputs; output = true; count = s.count; cubes = s.cubes ++ b ∷ [] })
      right size = rw (sym kept.output ∙ e)
