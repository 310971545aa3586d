-- Both masks are looked up, and decide; a number that is no box contains nothing.
use Rattle.std.proofs.Common.{sym, ap₂, ◌∙◌, ℕ, ◌+◌, ◌*◌, ◌/◌, ◌%◌, ◌^◌, ◌<◌, arith}
use Rattle.boxes.specs.Parts.{masked}
use Rattle.boxes.proofs.Boxes.{contains_nothing}
use Rattle.boxes.proofs.Looked.{free_at, on_at}
use Rattle.boxes.proofs.Masks.{contains-masked, masked_none}
use Rattle.boxes.proofs.digits_of.Goals as goal

pub returns-then-power3-b : goal.returns-then-power3-b
returns-then-power3-b c = λ x lx. masked_none x ∙ sym (contains_nothing _ _ _ (omega arith))

pub returns : goal.returns
returns c = λ x lx.
    let a = c.args in
    let l : a.b < 3 ^ a.m = omega arith in
    ap₂ (λ (f o : ℕ). masked f o x)
    (ap₂ (λ (h k : ℕ). h % 16 * 16 + k % 16) c.from-high.ensures c.from-low.ensures ∙ free_at a.m a.b c.requires l)
    (ap₂ (λ (h k : ℕ). h / 16 * 16 + k / 16) c.from-high.ensures c.from-low.ensures ∙ on_at a.m a.b c.requires l)
    ∙ contains-masked a.m 64 a.b x (omega arith) l lx
