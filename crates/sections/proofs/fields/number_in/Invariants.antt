-- The bytes from i on are passed: n is the number in those.
use Rattle.std.proofs.Common.{◌≡◌, ◌-◌, ◌^◌, ◌<◌, length, drop}
use Rattle.stored.specs.Fields.{number_in}
use Rattle.sections.proofs.fields.number_in.Given as goal

abbrev pub invariant-loop-i : goal.invariant-loop-i
invariant-loop-i l = (l.n ≡ number_in (drop l.i l.bytes)) × (l.n < 256 ^ (length l.bytes - l.i))
