-- A field is not complete, or its number is beyond the limits.
use Rattle.std.proofs.Common.{◌≡◌, ◌^◌, ◌≤◌, ◌<◌, length, ⊎_elim, arith, rules}
use Rattle.sections.specs.Places.{number_at, early, wrong}
use Rattle.sections.proofs.fields.Fields.field.Goals as goal

pub returns-in_default-clause-read : goal.returns-in_default-clause-read
returns-in_default-clause-read c = early c.in_default.ensures.cases

pub returns-then-number-low-clause-read : goal.returns-then-number-low-clause-read
returns-then-number-low-clause-read c =
    let f = c.args.self.now in
    let n : c.number_in-number.result ≡ number_at f c.args.k = search rules in
    let inside : c.args.k ≤ length f.rest.now = search rules in
    let small : number_at f c.args.k < 256 ^ c.args.k = search rules in
    rw c.place.ensures (wrong inside small (λ l u. ⊎_elim (λ w. omega (arith, n)) (λ w. omega (arith, n)) c.then-number-low.either))
