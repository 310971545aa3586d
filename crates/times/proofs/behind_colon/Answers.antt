-- The two digits, and the part behind them.
use Rattle.std.proofs.lemmas.Result.{err_from_is_err_and}
use Rattle.times.proofs.Behinds.{paired_on, unpaired, after_some}
use Rattle.times.proofs.Lefts.{left_as, reads_on}
use Rattle.times.proofs.behind_colon.Goals as goal

pub returns-in_err-x : goal.returns-in_err-x
returns-in_err-x c =
    let p = err_from_is_err_and c.from_residual.result c.from_residual.ensures.1 in
    rw (p.1, p.2) (left_as (λ k. unpaired _ (λ x h. after_some _ x) _) c.in_err-x.ensures)

pub returns : goal.returns
returns c = let w = c.in_ok-x.ensures in reads_on w (λ r. paired_on _ _ w.there) _ c.after.ensures
