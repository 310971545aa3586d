-- How a combination stands to the class, and what own numbers tell of it.
use Rattle.std.specs.Prelude.{ℕ, Bool, true, false, cond, ◌&&◌, eqb}
use Rattle.classes.specs.declared.Standing.{Standing}
use Rattle.classes.specs.declared.Standing.TheVariants.{In, Out, Either}

-- a combination stands in, out or either

abbrev pub is_in : Standing → Bool
is_in In = true
is_in Out = false
is_in Either = false

abbrev pub is_out : Standing → Bool
is_out In = false
is_out Out = true
is_out Either = false

abbrev pub is_either : Standing → Bool
is_either In = false
is_either Out = false
is_either Either = true

-- the same standing
abbrev pub is : Standing → Standing → Bool
is In = is_in
is Out = is_out
is Either = is_either

-- what a combination adds to the outside counts, and to the either counts: in 0 and 0, out 1 and 0, either 0 and 1

abbrev pub outs : Standing → ℕ
outs In = 0
outs Out = 1
outs Either = 0

abbrev pub eithers : Standing → ℕ
eithers In = 0
eithers Out = 0
eithers Either = 1

-- Own numbers o and e, of the outside and the either counts, tell one of the three standings if they are (0, 0), (1, 0) or (0, 1): if they add up to
-- at most 1.

-- they are those of this standing
abbrev pub tells : Standing → ℕ → ℕ → Bool
tells s o e = eqb o (outs s) && eqb e (eithers s)

-- the standing that they tell
abbrev pub told_by : ℕ → ℕ → Standing
told_by o e = cond (eqb o 0) (cond (eqb e 0) In Either) Out
