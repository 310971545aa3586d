-- The box of a combination is in the table.
use Rattle.std.proofs.Common.{arith}
use native.Mathlib.Nat.{pow-le-pow_right}
use Rattle.sheet.specs.Limits.{most_marks}
use Rattle.sheet.proofs.Opening.{combinations_fit}
use Rattle.writing.proofs.owns.Goals as goal

pub offset_bounds-t-single : goal.offset_bounds-t-single
offset_bounds-t-single c = omega (arith, pow-le-pow_right {n = 3} (omega arith) {i = c.args.m} {j = most_marks} c.requires.m_le_most_marks)

pub bounds-t-single : goal.bounds-t-single
bounds-t-single c = omega (arith, pow-le-pow_right {n = 3} (omega arith) {i = c.args.m} {j = most_marks} c.requires.m_le_most_marks)

pub returns : goal.returns
returns c = record {
  long = omega arith;
  each = λ k l. c.loop-c.invariant k (omega (arith, combinations_fit c.args.m c.requires.m_le_most_marks)) l;
}
