-- The class that sound counts tell: each combination is in it or counted, as out or as either, so the two all-free counts are what is missing to 2^m.
use Prim.Native.Nat.{ℕ, ◌+◌, ◌^◌, ◌≤◌}
use mathlib.Core.Path.{◌≡◌, refl, ◌∙◌, ap}
use mathlib.Core.Bool.{Bool, cond}
use mathlib.Core.List.{List}
use native.Mathlib.Nat.{one-le-pow}
use native.Mathlib.Omega.{arith}
use borrow.Author.Tests.{lt-ltb}
use Rattle.boxes.specs.Boxes.{all_free}
use Rattle.boxes.specs.Sums.{sum, only}
use Rattle.boxes.proofs.Boxes.{sum_in-all}
use Rattle.ground.proofs.Cases.{mark}
use Rattle.boxes.proofs.Sums.{sum_ext, sum-add, sum_ones}
use Rattle.tables.specs.Tables.{entry, own, Sums}
use Rattle.classes.specs.Standings.{is_in, told_by}
use Rattle.classes.specs.Sound.{CountsSound}
use Rattle.classes.specs.declared.Standing.TheVariants.{Out}
use Rattle.sheet.specs.Record.{in_class}
use Rattle.sheet.specs.Sound.{record_of, size_of}
use Rattle.sheet.specs.declared.Sheet.{Sheet}

in-or-counted : (o e : ℕ) → o + e ≤ 1 → only (is_in (told_by o e)) 1 + o + e ≡ 1
in-or-counted o e l =
    mark (λ (x : ℕ). x + e ≤ 1 → only (is_in (told_by x e)) 1 + x + e ≡ 1) o (omega arith)
    (λ k. mark (λ (y : ℕ). only (is_in (told_by 0 y)) 1 + 0 + y ≡ 1) e (omega arith) refl refl)
    (λ k. omega arith)
    l

all_counted : (m : ℕ) (t : List ℕ) → Sums m (entry t) → entry t (all_free m) ≡ sum (2 ^ m) (own m t)
all_counted m t sums =
    let p : 1 ≤ 3 ^ m = one-le-pow m 3 (omega arith) in
    sums (all_free m) (omega arith) ∙ sum_in-all m (own m t)

pub size_counted : (s : Sheet) → CountsSound s.marks s.outside s.either
    → size_of s.marks (in_class (record_of s)) + entry s.outside (all_free s.marks) + entry s.either (all_free s.marks) ≡ 2 ^ s.marks
size_counted s sound =
    let m = s.marks in
    let o = own m s.outside in
    let e = own m s.either in
    let each : sum (2 ^ m) (λ c. only (in_class (record_of s) c) 1 + o c + e c) ≡ sum (2 ^ m) (λ c. 1) =
    sum_ext (2 ^ m) _ _ (λ c l. ap (λ (t : Bool). only (is_in (cond t (told_by (o c) (e c)) Out)) 1 + o c + e c) (lt-ltb c (2 ^ m) l) ∙ in-or-counted (o c) (e c) (sound.tells c l)) in
    omega (
      arith,
      all_counted m s.outside sound.outsides,
      all_counted m s.either sound.eithers,
      sum-add (2 ^ m) (λ c. only (in_class (record_of s) c) 1 + o c) e,
      sum-add (2 ^ m) (λ c. only (in_class (record_of s) c) 1) o,
      sum_ones (2 ^ m),
    )
