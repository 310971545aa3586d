-- 01's sample sheet ('Desk program').
use Rattle.std.specs.Prelude.{cond, eqb, ltb}
use Rattle.profiles.specs.declared.Profile.TheVariants.{None}
use Rattle.classes.specs.declared.Standing.TheVariants.{In, Out}
use Rattle.sheet.specs.Record.{Record}

-- two marks; 01, 10 and 11 are in the class; 00 holds 4:00, 01 2:30 and 11 10:00
abbrev pub sample : Record
sample = record { marks = 2; profile = None; standing = λ c. cond (eqb c 0) Out (cond (ltb c 4) In Out); times = λ c. cond (eqb c 0) 240 (cond (eqb c 1) 150 (cond (eqb c 3) 600 0)) }
