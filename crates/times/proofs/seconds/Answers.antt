-- The two digits, and nothing more behind them, or something.
use native.Mathlib.Omega.{arith}
use Rattle.std.proofs.lemmas.Result.{err_from_is_err_and}
use Rattle.times.specs.declared.Form.TheVariants.{Hours}
use Rattle.times.proofs.Behinds.{unpaired, ended_some}
use Rattle.times.proofs.Lefts.{left_as, left_more, left_none}
use Rattle.times.proofs.seconds.Goals as goal

pub returns-in_err-x : goal.returns-in_err-x
returns-in_err-x c =
    let p = err_from_is_err_and c.from_residual.result c.from_residual.ensures.1 in
    rw (p.1, p.2) (left_as (λ k. unpaired _ (λ x h. ended_some Hours _ x) _) c.in_err-x.ensures)

pub returns-then-not-is_empty : goal.returns-then-not-is_empty
returns-then-not-is_empty c = left_more Hours _ _ c.in_ok-x.ensures (grind arith)

pub returns : goal.returns
returns c = left_none Hours _ _ c.in_ok-x.ensures (grind arith)
