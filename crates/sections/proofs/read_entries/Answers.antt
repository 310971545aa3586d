use Rattle.std.proofs.Common.{◌≡◌, ◌+◌, ◌-◌, ℕ, refl, ap, arith}
use native.Mathlib.Nat.{one-le-pow, sub-zero}
use Rattle.sheet.proofs.Opening.{combinations_fit, same-entry}
use Rattle.sections.proofs.Refused.{passed_on}
use Rattle.sections.proofs.Entries.{reached_none, reached_end, entry_missed, entry_barred, number_missed, reached_more}
use Rattle.sections.proofs.read_entries.Goals as goal

pub loop-init : goal.loop-init
loop-init c =
    let m = c.args.form.now.marks in (
      ap (λ (x : ℕ). x - 1) c.power2-top.ensures.0,
      rw (sub-zero c.args.n) (reached_none c.args.section m c.args.barred.now _ (λ j l. same-entry m 0 j c.args.form.now.few l) c.args.n c.args.form.now.fields (combinations_fit m c.args.form.now.few)),
    )

pub returns-in_err-c : goal.returns-in_err-c
returns-in_err-c c =
    passed_on _ _ c.from_residual.result _ c.from_residual.ensures.1
    (entry_missed c.loop.invariant.1 (omega arith) (rw c.loop.invariant.0 at c.in_err-c.ensures.read))

pub bounds-barred-c : goal.bounds-barred-c
bounds-barred-c c = omega (arith, c.in_ok-c.ensures.read.most, c.loop.invariant.0, one-le-pow c.args.form.now.marks 2 (omega arith), combinations_fit c.args.form.now.marks c.args.form.now.few)

pub returns-then-barred-c-ne0 : goal.returns-then-barred-c-ne0
returns-then-barred-c-ne0 c =
    rw c.place-place.ensures (entry_barred c.loop.invariant.1 (omega arith) (rw c.loop.invariant.0 at c.in_ok-c.ensures.read) (omega arith))

pub overflow_sub-most : goal.overflow_sub-most
overflow_sub-most c = c.loop.invariant.1.sum_most

pub returns-in_err-behind : goal.returns-in_err-behind
returns-in_err-behind c =
    passed_on _ _ c.from_residual-in_err-behind.result _ c.from_residual-in_err-behind.ensures.1
    (number_missed c.loop.invariant.1 (omega arith) (rw c.loop.invariant.0 at c.in_ok-c.ensures.read) (omega arith)
    (rw (c.bytes_behind.ensures.0, c.least-few.ensures) at c.in_err-behind.ensures.read))

pub bounds-own-c : goal.bounds-own-c
bounds-own-c c = omega (arith, c.in_ok-c.ensures.read.most, c.loop.invariant.0, one-le-pow c.args.form.now.marks 2 (omega arith), combinations_fit c.args.form.now.marks c.args.form.now.few)

pub loop-preserved : goal.loop-preserved
loop-preserved c = (
  c.loop.invariant.0,
  (let left : c.args.n - (c.loop.counter + 1) ≡ c.args.n - c.loop.counter - 1 = omega arith in
      rw (left, c.has_in.ensures)
      (reached_more c.loop.invariant.1 (omega arith) (rw c.loop.invariant.0 at c.in_ok-c.ensures.read) (omega arith)
      (rw (c.bytes_behind.ensures.0, c.least-few.ensures) at c.in_ok-behind.ensures.read))),
)

pub returns : goal.returns
returns c = (refl, reached_end c.loop.invariant.1 (omega arith))
