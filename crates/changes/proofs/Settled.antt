-- No two answers meet the contract of a call.
use Prim.Native.Nat.{ℕ}
use mathlib.Core.Path.{◌≡◌, sym, ◌∙◌}
use Rattle.sheet.specs.declared.Sheet.{Sheet}
use Rattle.sheet.specs.Told.{Answer}
use Rattle.changes.specs.declared.Call.{Call}
use Rattle.changes.specs.Calls.{did_of}

pub did_settled : (most : ℕ) (s : Sheet) (k : Call) (a z : Answer) → a ≡ did_of most s k → z ≡ did_of most s k → a ≡ z
did_settled most s k a z p q = p ∙ sym q
