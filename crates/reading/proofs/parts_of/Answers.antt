-- Each return is what the run over the fields comes to, from one of the stages behind the marks (Stages).
use Rattle.std.proofs.Common.{arith, rules}
use Rattle.sections.proofs.Refused.{passed_on}
use Rattle.reading.proofs.Whole.{marks_missed}
use Rattle.reading.proofs.Stages.{class_refused, either_refused, held_refused, end_refused, left_refused, all_addable, whole_read}
use Rattle.reading.proofs.parts_of.Goals as goal

pub returns-in_err-form : goal.returns-in_err-form
returns-in_err-form c = passed_on _ _ c.from_residual.result _ c.from_residual.ensures.1 (marks_missed c.args.layout _ c.in_err-form.ensures)

pub returns-in_err-ins : goal.returns-in_err-ins
returns-in_err-ins c =
    passed_on _ _ c.from_residual-in_err-ins.result _ c.from_residual-in_err-ins.ensures.1 (class_refused c.args.layout c.in_ok-form.ensures _ c.in_err-ins.ensures.read)

pub returns-in_err-eithers : goal.returns-in_err-eithers
returns-in_err-eithers c =
    passed_on _ _ c.from_residual-in_err-eithers.result _ c.from_residual-in_err-eithers.ensures.1
    (either_refused c.args.layout c.in_ok-form.ensures c.read.new.form c.in_ok-ins.ensures.read.0 c.in_ok-ins.ensures.read.1 _ c.in_err-eithers.ensures)

pub returns-in_err-times : goal.returns-in_err-times
returns-in_err-times c =
    passed_on _ _ c.from_residual-in_err-times.result _ c.from_residual-in_err-times.ensures.1
    (held_refused c.args.layout c.in_ok-form.ensures c.read.new.form c.in_ok-ins.ensures.read.0 c.in_ok-ins.ensures.read.1 c.either_part.new.form c.in_ok-eithers.ensures.0 _ c.in_ok-eithers.ensures.1 _ c.in_err-times.ensures.read)

pub returns-in_err-profile : goal.returns-in_err-profile
returns-in_err-profile c =
    passed_on _ _ c.from_residual-in_err-profile.result _ c.from_residual-in_err-profile.ensures.1
    (end_refused c.args.layout c.in_ok-form.ensures c.read.new.form c.in_ok-ins.ensures.read.0 c.in_ok-ins.ensures.read.1 c.either_part.new.form c.in_ok-eithers.ensures.0 _ c.in_ok-eithers.ensures.1 c.read-2.new.form c.in_ok-times.ensures.read.0 _ c.in_ok-times.ensures.read.1 _ c.in_err-profile.ensures)

pub returns-then-not-is_empty : goal.returns-then-not-is_empty
returns-then-not-is_empty c =
    rw c.place.ensures (left_refused c.args.layout c.in_ok-form.ensures c.read.new.form c.in_ok-ins.ensures.read.0 c.in_ok-ins.ensures.read.1 c.either_part.new.form c.in_ok-eithers.ensures.0 _ c.in_ok-eithers.ensures.1 c.read-2.new.form c.in_ok-times.ensures.read.0 _ c.in_ok-times.ensures.read.1 c.profile_part.new.form _ c.in_ok-profile.ensures (search rules))

pub returns : goal.returns
returns c =
    let addable = all_addable c.args.layout c.in_ok-form.ensures c.read.new.form c.in_ok-ins.ensures.read.0 c.in_ok-ins.ensures.read.1 c.either_part.new.form c.in_ok-eithers.ensures.0 _ c.in_ok-eithers.ensures.1 c.read-2.new.form c.in_ok-times.ensures.read.0 _ c.in_ok-times.ensures.read.1 c.profile_part.new.form _ c.in_ok-profile.ensures (search rules) c.neither.ensures (λ i. omega (arith, c.type_inv.bytes i)) in
    record {
      marks = addable.0;
      outs = addable.1;
      eithers = addable.2;
      times = addable.3;
      reads = λ is. whole_read c.args.layout c.in_ok-form.ensures c.read.new.form c.in_ok-ins.ensures.read.0 c.in_ok-ins.ensures.read.1 c.either_part.new.form c.in_ok-eithers.ensures.0 _ c.in_ok-eithers.ensures.1 c.read-2.new.form c.in_ok-times.ensures.read.0 _ c.in_ok-times.ensures.read.1 c.profile_part.new.form _ c.in_ok-profile.ensures (search rules) c.neither.ensures is;
    }
