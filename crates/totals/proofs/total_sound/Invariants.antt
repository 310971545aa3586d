-- The seconds of the class below c are added up.
use Prim.Native.Nat.{ℕ, ◌*◌, ◌^◌, ◌≤◌}
use mathlib.Core.Path.{◌≡◌}
use Rattle.totals.specs.Totals.{taken}
use Rattle.sheet.specs.Record.{in_class}
use Rattle.sheet.specs.Sound.{record_of}
use Rattle.sheet.specs.declared.Sheet.{Sheet}
use Rattle.tables.specs.Tables.{own}
use Rattle.boxes.specs.Sums.{sum}
use Rattle.totals.proofs.total_sound.Given as goal

abbrev pub upto : Sheet → ℕ → ℕ
upto s n = sum n (taken (in_class (record_of s)) (own s.marks s.held))

abbrev pub invariant-loop-c : goal.invariant-loop-c
invariant-loop-c l = (l.c-end ≡ 2 ^ l.sheet.marks) × (l.total ≤ l.c * 4294967296) × (l.total ≡ upto l.sheet l.c)
