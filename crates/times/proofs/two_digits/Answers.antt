-- Each exit says what the digits' tests showed.
use Rattle.std.proofs.lemmas.Result.{err_from_is_err_and}
use Rattle.times.proofs.Lefts.{left_tens, left_ones, left_pair}
use Rattle.times.proofs.two_digits.Goals as goal

pub returns-in_err-tens : goal.returns-in_err-tens
returns-in_err-tens c =
    let p = err_from_is_err_and c.from_residual.result c.from_residual.ensures.1 in
    rw (p.1, p.2) (left_tens c.in_err-tens.ensures.stops.0 c.in_err-tens.ensures.stops.1)

pub returns-in_err-ones : goal.returns-in_err-ones
returns-in_err-ones c =
    let p = err_from_is_err_and c.from_residual-in_err-ones.result c.from_residual-in_err-ones.ensures.1 in
    let t = c.in_ok-tens.ensures.goes_on in
    let o = c.in_err-ones.ensures.stops in
    rw (p.1, p.2) (left_ones _ t.0 t.1 o.0 o.1)

pub returns : goal.returns
returns c = let t = c.in_ok-tens.ensures.goes_on in let o = c.in_ok-ones.ensures.goes_on in left_pair _ _ t.0 t.1 o.0 o.1
