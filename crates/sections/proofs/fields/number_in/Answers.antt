use Rattle.std.proofs.Common.{◌-◌, length, drop, arith, rules}
use native.Mathlib.Nat.{one-le-pow}
use lib.ListN.{length-drop}
use Rattle.sections.proofs.Offsets.{number_none, number_small, number_grows, number_fits}
use Rattle.sections.proofs.fields.number_in.Goals as goal

pub loop-i-init : goal.loop-i-init
loop-i-init c =
    let t = c.args.bytes.now in
    (number_none (drop (length t) t) (omega (arith, length-drop (length t) t)), one-le-pow (length t - length t) 256 (omega arith))

pub overflow_mul-n : goal.overflow_mul-n
overflow_mul-n c = let l = c.loop-i in omega (arith, number_small l.n (length c.args.bytes.now - l.i) l.invariant.1 (omega arith))

pub overflow_add-n : goal.overflow_add-n
overflow_add-n c = let l = c.loop-i in omega (arith, number_small l.n (length c.args.bytes.now - l.i) l.invariant.1 (omega arith))

pub loop-i-preserved : goal.loop-i-preserved
loop-i-preserved c =
    let l = c.loop-i in
    let t = c.args.bytes.now in (
      number_grows t l.i l.n c.from.result (omega arith) (omega arith) l.invariant.0 (search rules),
      number_fits l.n (length t - l.i) (length t - (l.i - 1)) c.from.result l.invariant.1 (omega arith) (omega arith),
    )
