-- A law for each way out; the box is below 3^5, the length of the table.
use Rattle.std.proofs.Common.{arith}
use Rattle.boxes.proofs.Numbers.{boxes_mono}
use Rattle.pla_reading.proofs.Keeping.{cube_early, cube_kept}
use Rattle.pla_reading.proofs.said.Said.take_cube.Goals as goal

pub returns-then-not-self-clause-leads : goal.returns-then-not-self-clause-leads
returns-then-not-self-clause-leads c s kept = cube_early s _ _ kept _ c.if-not-self.true

pub offset_bounds-sets-b : goal.offset_bounds-sets-b
offset_bounds-sets-b c = let b = c.requires.box_of_inputs in omega (arith, b.1, boxes_mono b.0)

pub bounds-sets-b : goal.bounds-sets-b
bounds-sets-b c = let b = c.requires.box_of_inputs in omega (arith, b.1, boxes_mono b.0)

pub returns-clause-leads : goal.returns-clause-leads
returns-clause-leads c s kept = cube_kept s _ _ kept _ c.sets.ensures _ c.requires.box_of_inputs.1 c.if-not-self.false
