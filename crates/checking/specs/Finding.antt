-- What is found of a list: the sheet's class table is spoiled; the list fits; or its first fault, with the index of the box, or else the combination.
use Rattle.std.specs.Prelude.{ℕ}
use Rattle.checking.specs.declared.Fault.{Fault}

pub data Finding : Type 0 where
  Spoiled : Finding
  Fitting : Finding
  Faulty : Fault → ℕ → Finding
