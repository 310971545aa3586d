-- The total of a sheet's class: 7 by an exact condition, and otherwise what it is.
use Rattle.std.specs.Prelude.{ℕ, ◌^◌, Bool}
use Rattle.boxes.specs.Sums.{sum, only}
use Rattle.sheet.specs.Record.{Record, in_class}
use Rattle.sheet.specs.Sound.{Ready, record_of}
use Rattle.sheet.specs.declared.Sheet.{Sheet}
use Rattle.sheet.specs.Told.{Value}

-- what a combination adds to the class total: its seconds, if it is in the class
abbrev pub taken : (ℕ → Bool) → (ℕ → ℕ) → ℕ → ℕ
taken class times c = only (class c) (times c)

-- the seconds held in the class
abbrev pub total_of : Record → ℕ
total_of r = sum (2 ^ r.marks) (taken (in_class r) r.times)

-- what `total` answers: 7, or else the seconds held in the class
pub data Totalled (most : ℕ) (s : Sheet) : Value → Type 0 where
  spoiled : (Ready most s → ⊥) → Totalled most s (record { number = 7; value = 0 })
  told : Ready most s → Totalled most s (record { number = 0; value = total_of (record_of s) })
