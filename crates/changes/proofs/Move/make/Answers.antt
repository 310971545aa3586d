-- Each table has room for its own shift.
use Rattle.sheet.specs.Record.{outside_counts, either_counts, held_seconds}
use Rattle.changes.proofs.Move.make.Goals as goal

pub move_at-requires-clause-all_bear : goal.move_at-requires-clause-all_bear
move_at-requires-clause-all_bear c = c.requires.bear outside_counts

pub move_at-requires-2-clause-all_bear : goal.move_at-requires-2-clause-all_bear
move_at-requires-2-clause-all_bear c = c.requires.bear either_counts

pub move_at-requires-3-clause-all_bear : goal.move_at-requires-3-clause-all_bear
move_at-requires-3-clause-all_bear c = c.requires.bear held_seconds
