-- 01's table: for each refusal its number, and the place that goes with it.
use Rattle.std.specs.Prelude.{ℕ}
use Rattle.refusals.specs.declared.Refusal.{Refusal}
use Rattle.refusals.specs.declared.Refusal.TheVariants.{Marks, Combination, Standing, Amount, Room, Spoiled, Above, Below, Unreadable, Date, Either, Profile}

abbrev pub number_of : Refusal → ℕ
number_of Marks = 1
number_of Combination = 2
number_of Standing = 3
number_of Amount = 4
number_of Room = 5
number_of Spoiled = 7
number_of Above = 8
number_of Below = 9
number_of (Unreadable _) = 10
number_of Date = 11
number_of Either = 12
number_of Profile = 13

abbrev pub place_of : Refusal → ℕ
place_of (Unreadable p) = p
place_of _ = 0
