use Rattle.std.proofs.Common.{◌≡◌, ℕ, Ok, ◌+◌, ◌≤◌, List, length, drop, arith, refl, sym, ap, subst, ◌∙◌}
use Rattle.std.proofs.lemmas.List.{length-drop}
use Rattle.pla_lines.specs.Lines.{first_line, words_in}
use Rattle.pla_lines.specs.Parts.{Hears}
use Rattle.pla_lines.proofs.Fronts.{from-drop}
use Rattle.pla_lines.proofs.FirstLine.{line_inside}
use Rattle.pla_reading.specs.Parts.{Judged, judged_of}
use Rattle.pla_reading.proofs.Lines.{Reached, reached_none, cubes_few, marks_few, line_refused, line_ends, line_taken, all_read, answered, refusal_read}
use Rattle.pla_reading.proofs.read.Goals as goal
use Rattle.pla_reading.proofs.read.Goals.{After-judge}

-- what was heard of the line at the offset
heard : (c : After-judge)
    → Hears c.loop-at.said.inputs (words_in (drop c.loop-at.at c.args.text.now)) c.read-heard.result
heard c =
    let l = c.loop-at in
    let t = c.args.text.now in
    subst (λ (x : List ℕ). Hears l.said.inputs (words_in x) c.read-heard.result) (from-drop l.at t) c.read-heard.ensures

-- how long the line at the offset is, and that it ends inside the text
size_is : {line : List ℕ} (at n : ℕ) (t : List ℕ) → line ≡ drop at t → n ≡ length (first_line line) → n ≡ length (first_line (drop at t))
size_is at n t e h = h ∙ ap (λ (x : List ℕ). length (first_line x)) e

line_fits : (at n : ℕ) (t : List ℕ) → at ≤ length t → n ≡ length (first_line (drop at t)) → at + n ≤ length t
line_fits at n t inside h = omega (arith, line_inside (drop at t), length-drop at t)

pub loop-at-init : goal.loop-at-init
loop-at-init c = reached_none _ _ c.nothing-said.ensures

pub returns-in_err-judge : goal.returns-in_err-judge
returns-in_err-judge c =
    let l = c.loop-at in
    let t = c.args.text.now in
    refusal_read c.from_residual.result _ c.from_residual.ensures.1
    (line_refused t l.said l.at _ _ l.invariant (omega arith) (heard (goal.at.returns-in_err-judge c).After-judge) c.in_err-judge.ensures.leads _ _ refl)

pub comes_to-requires : goal.comes_to-requires
comes_to-requires c =
    let i = c.loop-at.invariant in
    rw (c.in_ok-judge.ensures.ended c.if-not-branch.true) (marks_few i, omega (arith, cubes_few i))

pub returns-then-not-branch : goal.returns-then-not-branch
returns-then-not-branch c =
    let l = c.loop-at in
    let t = c.args.text.now in
    answered _ (line_ends t l.said l.at _ _ l.invariant (omega arith) (heard (goal.at.returns-then-not-branch c).After-judge)
    (subst (λ b. Judged l.said l.at c.read-heard.result (judged_of (Ok b) c.judge.new.self)) c.if-not-branch.true c.in_ok-judge.ensures.leads) refl)
    (c.comes_to.ensures l.invariant.so_far (rw (c.in_ok-judge.ensures.ended c.if-not-branch.true) l.invariant.kept))

pub overflow_add-at : goal.overflow_add-at
overflow_add-at c =
    let l = c.loop-at in
    let t = c.args.text.now in
    omega (arith, line_fits l.at c.size.result t (omega arith) (size_is l.at c.size.result t (from-drop l.at t) c.size.ensures))

pub overflow_add-at-in-loop-at : goal.overflow_add-at-in-loop-at
overflow_add-at-in-loop-at c =
    let l = c.loop-at in
    let t = c.args.text.now in
    omega (arith, line_fits l.at c.size.result t (omega arith) (size_is l.at c.size.result t (from-drop l.at t) c.size.ensures))

pub loop-at-preserved : goal.loop-at-preserved
loop-at-preserved c =
    let l = c.loop-at in
    let t = c.args.text.now in
    let size : length (first_line (drop l.at t)) ≡ c.size.result = sym (size_is l.at c.size.result t (from-drop l.at t) c.size.ensures) in
    subst (Reached t c.judge.new.self) (omega (arith, size))
    (line_taken t l.said l.at _ _ l.invariant (omega arith) (heard (goal.at.loop-at-preserved c).After-judge)
    (subst (λ b. Judged l.said l.at c.read-heard.result (judged_of (Ok b) c.judge.new.self)) c.if-not-branch.false c.in_ok-judge.ensures.leads) _ refl)

pub returns : goal.returns
returns c =
    let l = c.loop-at in
    let t = c.args.text.now in
    answered _ (all_read t l.said l.at l.invariant (omega arith)) (c.comes_to-2.ensures l.invariant.so_far l.invariant.kept)
