-- By the first word; each way out is the law of what was tested.
use Rattle.pla_lines.proofs.Hearing.{hears_inputs, hears_count, hears_output, hears_cube, no_inputs, no_count, no_box, same, other}
use Rattle.pla_lines.proofs.sayings.pair.Goals as goal

pub returns-in_err-read_number : goal.returns-in_err-read_number
returns-in_err-read_number c =
    rw c.from_residual.ensures (no_inputs _ c.requires.1 (same c.as_slice.ensures c.eq.ensures c.if-eq.true) c.in_err-read_number.ensures)

pub returns-then-eq : goal.returns-then-eq
returns-then-eq c = hears_inputs _ (same c.as_slice.ensures c.eq.ensures c.if-eq.true) c.in_ok-read_number.ensures

pub returns-in_err-read_number-2 : goal.returns-in_err-read_number-2
returns-in_err-read_number-2 c =
    rw c.from_residual-in_err-read_number-2.ensures
    (no_count _ c.requires.1 (same c.as_slice-2.ensures c.eq-2.ensures c.if-eq-2.true) c.in_err-read_number-2.ensures)

pub returns-then-eq-2 : goal.returns-then-eq-2
returns-then-eq-2 c = hears_count _ (same c.as_slice-2.ensures c.eq-2.ensures c.if-eq-2.true) c.in_ok-read_number-2.ensures

pub returns-then-eq-3 : goal.returns-then-eq-3
returns-then-eq-3 c =
    hears_output _ (same c.as_slice-4.ensures c.eq-3.ensures c.if-eq-3.true) (same c.as_slice-3.ensures c.eq-is_one.ensures c.if-not-is_one.false)

pub returns-in_err-read_cube : goal.returns-in_err-read_cube
returns-in_err-read_cube c =
    rw c.from_residual-in_err-read_cube.ensures
    (no_box _ c.requires.1 (other c.as_slice.ensures c.eq.ensures c.if-eq.false)
    (other c.as_slice-2.ensures c.eq-2.ensures c.if-eq-2.false) (other c.as_slice-4.ensures c.eq-3.ensures c.if-eq-3.false) c.in_err-read_cube.ensures)

pub returns : goal.returns
returns c = hears_cube _ c.in_ok-read_cube.ensures (same c.as_slice-3.ensures c.eq-is_one.ensures c.if-not-is_one.false)
