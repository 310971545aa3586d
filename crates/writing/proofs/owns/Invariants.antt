-- The combinations below c have what the table has of their own.
use Rattle.std.proofs.Common.{◌≡◌, ℕ, ◌<◌, ◌^◌, slice_index}
use Rattle.tables.specs.Tables.{own}
use Rattle.writing.proofs.owns.Given as goal

abbrev pub invariant-loop-c : goal.invariant-loop-c
invariant-loop-c l = (k : ℕ) → k < l.c → k < 2 ^ l.m → slice_index l.has-items k ≡ own l.m l.t k
