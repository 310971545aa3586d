use Rattle.std.proofs.Common.{ℕ, false, ◌+◌, drop, arith, sym, ap, ◌∙◌}
use Rattle.machine.specs.declared.line.Line.{Line}
use Rattle.machine.specs.AtHand.{cut, cut_of}
use Rattle.machine.proofs.AtHand.{used_more, cut_none, cut_newline, cut_byte, cut_all}
use Rattle.machine.proofs.line.Line.take.Goals as goal

pub loop-i-init : goal.loop-i-init
loop-i-init c = cut_none _

pub returns-then-newline : goal.returns-then-newline
returns-then-newline c = let l = c.loop-i in sym (l.invariant ∙ cut_newline l.self _ l.i (omega arith) (omega arith))

pub loop-i-preserved : goal.loop-i-preserved
loop-i-preserved c =
    let l = c.loop-i in
    let piece = c.args.piece.now in
    l.invariant ∙ cut_byte l.self piece l.i (omega arith) (omega arith)
    ∙ ap (λ (x : Line). used_more (l.i + 1) (cut_of x (drop (l.i + 1) piece))) (sym c.push.ensures)

pub returns : goal.returns
returns c =
    let l = c.loop-i in
    ap (λ (n : ℕ). cut l.self n false) (omega arith) ∙ sym (l.invariant ∙ cut_all l.self _ l.i (omega arith))
