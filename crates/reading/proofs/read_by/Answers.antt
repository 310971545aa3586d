-- Each return is what the parts read as.
use Rattle.reading.proofs.Whole.{refusal_read}
use Rattle.reading.proofs.read_by.Goals as goal

pub returns-in_err-p : goal.returns-in_err-p
returns-in_err-p c = refusal_read c.args.layout c.from_residual.result _ c.from_residual.ensures.1 c.in_err-p.ensures

pub afresh-requires : goal.afresh-requires
afresh-requires c = let p = c.in_ok-p.ensures in (p.marks, p.outs, p.eithers, p.times)

pub returns : goal.returns
returns c = c.in_ok-p.ensures.reads c.afresh.ensures
