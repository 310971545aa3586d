-- The search's own area is as long as a list can be.
use Prim.Native.Nat.{◌≤◌}
use native.Mathlib.Omega.{arith}
use lib.ListN.{length, length-take}
use Rattle.listing.proofs.Laid.{lines_fit}
use Rattle.listing.proofs.lay.Goals as goal
use Rattle.listing.proofs.lay.Goals.{After-most_lines-n}

-- the own area has room for it
room : (c : After-most_lines-n) → c.most_lines-n.result ≤ length c.area-own.result
room c = omega (arith, lines_fit c.args.m c.requires.few)

pub slice_bounds-own-end : goal.slice_bounds-own-end
slice_bounds-own-end c = room c

pub slice_bounds-shortest-end : goal.slice_bounds-shortest-end
slice_bounds-shortest-end c = simp length-take (omega (arith, room (goal.at.slice_bounds-shortest-end c).After-most_lines-n))

pub shortest-k-requires : goal.shortest-k-requires
shortest-k-requires c =
    let p = c.requires in
    record { marks = p.few; small = p.small; within = p.within; long = simp length-take (omega (arith, room (goal.at.shortest-k-requires c).After-most_lines-n)) }
