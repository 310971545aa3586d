-- What is tested is what the search asks; its answer is told by a number.
use native.Mathlib.Omega.{arith}
use lib.Pow.{pow_mono}
use Rattle.sets.proofs.Bits.{within_no}
use Rattle.seek.specs.Answer.{Askable}
use Rattle.seek_c.proofs.Askable.{askable, shifted_in, untold, told}
use Rattle.seek_c.proofs.seek_shortest.Goals as goal
use Rattle.seek_c.proofs.seek_shortest.Goals.{Else-need-room}

-- past the tests the search may be asked
may : (c : Else-need-room) → let s = c.args in Askable s.marks s.need s.room s.area.now
may c =
    askable _ _ _ _ (omega arith) (omega arith)
    c.power2-n.ensures.0 (omega arith) (omega arith)

pub returns-then-marks-gt5 : goal.returns-then-marks-gt5
returns-then-marks-gt5 c = untold _ _ _ _ (λ a. omega (arith, a.marks))

pub returns-then-area-most_lines : goal.returns-then-area-most_lines
returns-then-area-most_lines c = untold _ _ _ _ (λ a. omega (arith, a.long))

pub overflow_shr-wide : goal.overflow_shr-wide
overflow_shr-wide c = omega (arith, c.power2-n.ensures.0, pow_mono c.if-marks-gt5.false)

pub returns-then-wide-n-ne0 : goal.returns-then-wide-n-ne0
returns-then-wide-n-ne0 c =
    let e = c.power2-n.ensures.0 in
    untold _ _ _ _ (λ a. shifted_in c.args.need _ c.if-wide-n-ne0.true (rw e a.small))

pub returns-then-need-room : goal.returns-then-need-room
returns-then-need-room c = untold _ _ _ _ (λ a. within_no _ _ (omega arith) a.within)

pub shortest-requires : goal.shortest-requires
shortest-requires c = may (goal.at.shortest-requires c).Else-need-room

pub returns : goal.returns
returns c = told _ _ _ _ _ _ (may (goal.at.returns c).Else-need-room) c.shortest.ensures
