-- The two all-free counts are what is missing to 2^m.
use Prim.Native.Nat.{ℕ, ◌+◌, ◌-◌}
use mathlib.Core.Path.{◌≡◌, ap}
use native.Mathlib.Omega.{arith}
use Rattle.tables.specs.Tables.{entry}
use Rattle.sheet.specs.Record.{in_class}
use Rattle.sheet.specs.Sound.{record_of, size_of}
use Rattle.sheet.proofs.Classes.{size_counted}
use Rattle.sheet.proofs.Sheet.size_sound.Goals as goal
use Rattle.sheet.proofs.Sheet.size_sound.Goals.{After-power2}

counted : (c : After-power2)
    → let s = c.args.self.now in
    let all = c.power3-all.result - 1 in
    size_of s.marks (in_class (record_of s)) + entry s.outside all + entry s.either all ≡ c.power2.result
counted c =
    let s = c.args.self.now in
    let e = c.power3-all.ensures.0 in
    omega (arith, ap (λ (n : ℕ). entry s.outside (n - 1)) e, ap (λ (n : ℕ). entry s.either (n - 1)) e, size_counted s c.requires.class.counts)

pub overflow_sub-result : goal.overflow_sub-result
overflow_sub-result c = omega (arith, counted (goal.at.overflow_sub-result c).After-power2)

pub overflow_sub-result-2 : goal.overflow_sub-result-2
overflow_sub-result-2 c = omega (arith, counted (goal.at.overflow_sub-result-2 c).After-power2)

pub returns : goal.returns
returns c = omega (arith, counted (goal.at.returns c).After-power2)
