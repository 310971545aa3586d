-- A line asks for one thing, and line 1 says one thing.
use Prim.Native.Nat.{ℕ}
use mathlib.Core.Path.{◌≡◌, refl, sym, ap, ◌∙◌, subst}
use mathlib.Core.List.{List, []}
use native.Mathlib.Omega.{arith}
use lib.ListN.{get_or}
use Rattle.ground.proofs.Figures.{figures_same}
use Rattle.std.specs.Prelude.{Option, Some, None}
use Rattle.times.specs.declared.Form.{Form}
use Rattle.times.specs.declared.Time.TheVariants.{Value}
use Rattle.times.specs.Texts.{Readable}
use Rattle.times.specs.Places.{value}
use Rattle.times.proofs.Settled.{read_settled}
use Rattle.classes.specs.declared.Standing.TheVariants.{In, Out}
use Rattle.changes.specs.declared.Call.TheVariants.{Change}
use Rattle.machine.specs.Rows.{Row}
use Rattle.lines.specs.declared.Order.{Order}
use Rattle.lines.specs.declared.Order.TheVariants.{Make}
use Rattle.lines.specs.Words.{Names, NamesAmount, Says, Asked, said, nothing, Opens, marks, other, RowAsks, RowOpens}
use Rattle.lines.proofs.Orders.{Verb, Part, enters, leaves, receives, withdraws, ends, apart, apart_same, front_at, behind_at}

pub same_time : {t : List ℕ} {v w : ℕ} {f g : Form} → Readable t v f → Readable t w g → (v ≡ w) × (f ≡ g)
same_time {t} {v} {w} {f} {g} p q = let e : Value v f ≡ Value w g = read_settled (value p) (value q) in (cc, cc)

same_names : {m : ℕ} {part : List ℕ} {c e : ℕ} → Names m [] part c → Names m [] part e → c ≡ e
same_names {m} {part} {c} {e} n k = figures_same 2 (omega arith) m c e n.small k.small (sym n.text ∙ k.text)

same_amount : {m : ℕ} {part : List ℕ} {c d e b : ℕ} {f g : Form} → NamesAmount m [] part c d f → NamesAmount m [] part e b g → (c ≡ e) × (d ≡ b) × (f ≡ g)
same_amount {m} {part} {b = b} {g = g} n k =
    let w : k.time ≡ n.time = cc (behind_at m part k, behind_at m part n) in
    let t = same_time n.readable (subst (λ (t : List ℕ). Readable t b g) w k.readable) in
    (same_names (front_at m part n) (front_at m part k), t.0, t.1)

part_settled : {m : ℕ} {v : Verb} {part : List ℕ} {o p : Order} → Part m v part o → Part m v part p → o ≡ p
part_settled (enters n) (enters k) = ap (λ (c : ℕ). Make (Change In c) None) (same_names n k)
part_settled (leaves n) (leaves k) = ap (λ (c : ℕ). Make (Change Out c) None) (same_names n k)
part_settled (receives n) (receives k) = let q = same_amount n k in cc (q.0, q.1, q.2)
part_settled (withdraws n) (withdraws k) = let q = same_amount n k in cc (q.0, q.1, q.2)
part_settled ends ends = refl

pub says_settled : {m : ℕ} {line : List ℕ} {o p : Order} → Says m line o → Says m line p → o ≡ p
says_settled s k = let a = apart s in part_settled a.says (apart_same a.verb a.part a.text k)

pub asked_settled : {m : ℕ} {line : List ℕ} {o p : Order} → Asked m line o → Asked m line p → o ≡ p
asked_settled (said s) (said k) = says_settled s k
asked_settled (said s) (nothing n) = absurd (n _ s)
asked_settled (nothing n) (said k) = absurd (n _ k)
asked_settled (nothing n) (nothing k) = refl

pub opens_settled : {line : List ℕ} {f g : Option ℕ} → Opens line f → Opens line g → f ≡ g
opens_settled (marks {n} p) (marks {n = k} q) = ap Some (omega (arith, ap (λ (l : List ℕ). get_or l 6 0) (sym p.1 ∙ q.1)))
opens_settled (marks p) (other n) = absurd (n _ p)
opens_settled (other n) (marks p) = absurd (n _ p)
opens_settled (other n) (other k) = refl

pub row_asks_settled : {m : ℕ} {row : Row} {o p : Order} → RowAsks m row o → RowAsks m row p → o ≡ p
row_asks_settled (RowAsks.read a) (RowAsks.read b) = asked_settled a b
row_asks_settled RowAsks.lost RowAsks.lost = refl

pub row_opens_settled : {row : Row} {f g : Option ℕ} → RowOpens row f → RowOpens row g → f ≡ g
row_opens_settled (RowOpens.read a) (RowOpens.read b) = opens_settled a b
row_opens_settled RowOpens.lost RowOpens.lost = refl
