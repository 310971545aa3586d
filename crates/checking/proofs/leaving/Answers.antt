-- A box leaves the room if its set has a combination that the room has not.
use Rattle.std.proofs.Common.{rules, ◌≡◌, ◌-◌, bit_and}
use mathlib.Core.Path.{refl}
use lib.ListN.{get_or}
use Rattle.sets.specs.Sets.{value_at}
use Rattle.checking.specs.Parts.{Sought}
use Rattle.checking.proofs.Firsts.{sought_by}
use Rattle.checking.proofs.Unions.{set_at, leaves, leaves_not}
use Rattle.checking.proofs.leaving.Goals as goal

pub returns : goal.returns
returns c =
    let a = c.args in
    let r = c.requires in
    let found : Sought a.list.now (λ i. bit_and (value_at a.sets.now (get_or a.list.now i 0)) (4294967295 - a.room) ≡ 0 → ⊥) c.position.result = search rules in
    sought_by a.list.now
    (λ i h x. leaves a.m a.list.now i _ h (set_at a.m a.sets.now a.list.now i _ r.1 r.2 h refl) a.room c.ranges.room.fits x)
    (λ i h x z. leaves_not a.m a.list.now i _ h (set_at a.m a.sets.now a.list.now i _ r.1 r.2 h refl) a.room c.ranges.room.fits z x)
    c.position.result found
