-- The words are taken off one by one; each way out is the law of how many there are.
use Rattle.std.proofs.Common.{sym, ◌∙◌}
use Rattle.pla_lines.proofs.Hearing.{behind_word, hears_none, hears_end, same, nothing}
use Rattle.pla_lines.proofs.said.Goals as goal

pub returns-in_default : goal.returns-in_default
returns-in_default c = hears_none _ c.in_default.ensures

pub returns-then-eq : goal.returns-then-eq
returns-then-eq c = hears_end _ (rw (same c.as_slice.ensures c.eq.ensures c.if-eq.true) at c.in-Some.ensures)

pub returns : goal.returns
returns c =
    let none = nothing _ _ c.next-3.ensures (sym c.is_some.ensures ∙ c.if-is_some.false) in
    rw (behind_word c.in-Some.ensures (behind_word c.in_ok-argument.ensures none)) c.pair.ensures
