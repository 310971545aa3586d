-- Gaps alone, a stop behind them, or a word.
use Rattle.pla_lines.proofs.FirstWord.{words_gaps, words_gone, word_split}
use Rattle.pla_lines.proofs.words.next.Goals as goal

pub returns-in_err-gap : goal.returns-in_err-gap
returns-in_err-gap c = rw c.from_residual.ensures (words_gaps _ c.in_err-gap.ensures)

pub returns-then-size-eq0 : goal.returns-then-size-eq0
returns-then-size-eq0 c = words_gone _ c.in_ok-gap.ensures c.word_end.ensures c.unwrap_or-size.ensures c.if-size-eq0.true

pub returns : goal.returns
returns c =
    let s = c.split_at.ensures in
    word_split _ c.in_ok-gap.ensures c.word_end.ensures c.unwrap_or-size.ensures c.if-size-eq0.false s.front s.back
