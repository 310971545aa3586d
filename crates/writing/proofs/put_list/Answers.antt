use Rattle.std.proofs.Common.{refl, arith}
use Rattle.writing.proofs.Laws.{listing_none, listing_room, listing_more, listing_done}
use Rattle.writing.proofs.put_list.Goals as goal

pub loop-c-init : goal.loop-c-init
loop-c-init c = listing_none _ _ _ c.args.page.now c.requires.room

pub put_entry-requires-clause-room : goal.put_entry-requires-clause-room
put_entry-requires-clause-room c = listing_room c.loop-c.invariant _ _ refl refl (omega arith)

pub loop-c-preserved : goal.loop-c-preserved
loop-c-preserved c = listing_more c.loop-c.invariant _ _ refl refl (omega arith) c.put_entry.ensures

pub returns : goal.returns
returns c = listing_done c.loop-c.invariant (omega arith)
