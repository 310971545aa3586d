-- 5 by the length that the three counts and the profile tell, then the form in five pieces.
use Rattle.std.proofs.Common.{ap, length, arith, rules}
use Rattle.sheet.specs.Limits.{most_marks}
use Rattle.sheet.proofs.Limits.{marks_most}
use Rattle.stored.specs.Answers.{short}
use Rattle.writing.proofs.Laws.{lists_told, length_told, pieces_length, pieces_written, written_in, front_long}
use Rattle.writing.proofs.Groups.{groups_fit}
use Rattle.writing.proofs.write_sound.Goals as goal

pub returns-then-out-a : goal.returns-then-out-a
returns-then-out-a c =
    let v = lists_told c.args.sheet.now c.requires c.power2-n.ensures.0 c.owns.ensures c.owns-eithers.ensures c.owns-times.ensures c.neither-ins.ensures in
    short c.requires (omega (arith, length_told v))

pub put_section-requires-clause-room : goal.put_section-requires-clause-room
put_section-requires-clause-room c =
    let v = lists_told c.args.sheet.now c.requires c.power2-n.ensures.0 c.owns.ensures c.owns-eithers.ensures c.owns-times.ensures c.neither-ins.ensures in
    omega (arith, length_told v, pieces_length v, ap length c.new-page.ensures.area, c.put_byte.ensures.len, c.put_byte.ensures.long)

pub put_section-requires-2-clause-room : goal.put_section-requires-2-clause-room
put_section-requires-2-clause-room c =
    let v = lists_told c.args.sheet.now c.requires c.power2-n.ensures.0 c.owns.ensures c.owns-eithers.ensures c.owns-times.ensures c.neither-ins.ensures in
    omega (arith, length_told v, pieces_length v, ap length c.new-page.ensures.area, c.put_byte.ensures.len, c.put_byte.ensures.long, c.put_section.ensures.len, c.put_section.ensures.long)

pub put_section-requires-3-clause-room : goal.put_section-requires-3-clause-room
put_section-requires-3-clause-room c =
    let v = lists_told c.args.sheet.now c.requires c.power2-n.ensures.0 c.owns.ensures c.owns-eithers.ensures c.owns-times.ensures c.neither-ins.ensures in
    omega (arith, length_told v, pieces_length v, ap length c.new-page.ensures.area, c.put_byte.ensures.len, c.put_byte.ensures.long, c.put_section.ensures.len, c.put_section.ensures.long, c.put_section-2.ensures.len, c.put_section-2.ensures.long)

pub put_profile-requires-clause-groups_fit : goal.put_profile-requires-clause-groups_fit
put_profile-requires-clause-groups_fit c =
    groups_fit c.args.sheet.now.marks c.args.sheet.now.profile (marks_most most_marks c.args.sheet.now.marks c.requires.marks) c.requires.class.profile

pub put_profile-requires-clause-room : goal.put_profile-requires-clause-room
put_profile-requires-clause-room c =
    let v = lists_told c.args.sheet.now c.requires c.power2-n.ensures.0 c.owns.ensures c.owns-eithers.ensures c.owns-times.ensures c.neither-ins.ensures in
    omega (arith, length_told v, pieces_length v, ap length c.new-page.ensures.area, c.put_byte.ensures.len, c.put_byte.ensures.long, c.put_section.ensures.len, c.put_section.ensures.long, c.put_section-2.ensures.len, c.put_section-2.ensures.long, c.put_section-3.ensures.len, c.put_section-3.ensures.long)

pub returns : goal.returns
returns c =
    let v = lists_told c.args.sheet.now c.requires c.power2-n.ensures.0 c.owns.ensures c.owns-eithers.ensures c.owns-times.ensures c.neither-ins.ensures in
    let w = pieces_written v c.requires c.new-page.ensures.empty (omega (arith, length_told v, ap length c.new-page.ensures.area)) c.put_byte.ensures c.put_section.ensures c.put_section-2.ensures c.put_section-3.ensures c.put_profile.ensures in
    written_in _ _ _ _ w c.new-page.ensures.area (search rules)

pub slice_bounds-class-end : goal.slice_bounds-class-end
slice_bounds-class-end c = front_long c.args.sheet.now.marks _ _ (marks_most most_marks c.args.sheet.now.marks c.requires.marks) c.power2-n.ensures.0 c.neither-ins.ensures.long

pub slice_bounds-either-end : goal.slice_bounds-either-end
slice_bounds-either-end c = front_long c.args.sheet.now.marks _ _ (marks_most most_marks c.args.sheet.now.marks c.requires.marks) c.power2-n.ensures.0 c.owns-eithers.ensures.long

pub slice_bounds-held-end : goal.slice_bounds-held-end
slice_bounds-held-end c = front_long c.args.sheet.now.marks _ _ (marks_most most_marks c.args.sheet.now.marks c.requires.marks) c.power2-n.ensures.0 c.owns-times.ensures.long
