-- A line asks for one thing, and line 1 names one year.
use Prim.Native.Nat.{ℕ}
use mathlib.Core.Path.{◌≡◌, refl, ap, subst}
use mathlib.Core.List.{List}
use Rattle.std.specs.Prelude.{Option, Some}
use Rattle.dates.specs.declared.date.Date.{Date}
use Rattle.dates.proofs.Numbers.{writes_same}
use Rattle.dates.proofs.Dated.{dated_one}
use Rattle.changes.specs.declared.Call.{Call}
use Rattle.machine.specs.Rows.{Row}
use Rattle.times.specs.declared.Form.{Form}
use Rattle.lines.specs.declared.Order.TheVariants.{Make}
use Rattle.lines.specs.Words.{Says}
use Rattle.lines.proofs.Settled.{says_settled, asked_settled as asked-plain-settled}
use Rattle.year_lines.specs.declared.Slip.{Slip}
use Rattle.year_lines.specs.declared.Slip.TheVariants.{Dated, Plain}
use Rattle.year_lines.specs.Slips.{NamesYear, year, other, SaysOn, Asked, dated, plain, RowNames, RowAsks}
use Rattle.year_lines.proofs.Years.{year_part}

pub names_settled : {line : List ℕ} {a b : Option ℕ} → NamesYear line a → NamesYear line b → a ≡ b
names_settled (year p) (year q) = ap Some (writes_same p.writes (year_part p.text q))
names_settled (year p) (other n) = absurd (n _ p)
names_settled (other n) (year p) = absurd (n _ p)
names_settled (other n) (other k) = refl

says_on_settled : {m : ℕ} {line : List ℕ} {d e : Date} {a b : Call} {f g : Option Form} → SaysOn m line d a f → SaysOn m line e b g → Dated d a f ≡ Dated e b g
says_on_settled {m} {line} {d} {e} {a} {b} {f} {g} p q =
    let w = dated_one p.date q.date in
    let s : Make a f ≡ Make b g = says_settled (subst (λ (t : List ℕ). Says m t (Make a f)) w.1 p.call) q.call in
    cc w.0

pub asked_settled : {m : ℕ} {line : List ℕ} {a b : Slip} → Asked m line a → Asked m line b → a ≡ b
asked_settled (dated p) (dated q) = says_on_settled p q
asked_settled (dated p) (plain n k) = absurd (n _ _ _ p)
asked_settled (plain n k) (dated p) = absurd (n _ _ _ p)
asked_settled (plain n k) (plain j l) = ap Plain (asked-plain-settled k l)

pub row_names_settled : {row : Row} {a b : Option ℕ} → RowNames row a → RowNames row b → a ≡ b
row_names_settled (RowNames.read a) (RowNames.read b) = names_settled a b
row_names_settled RowNames.lost RowNames.lost = refl

pub row_asks_settled : {m : ℕ} {row : Row} {a b : Slip} → RowAsks m row a → RowAsks m row b → a ≡ b
row_asks_settled (RowAsks.read a) (RowAsks.read b) = asked_settled a b
row_asks_settled RowAsks.lost RowAsks.lost = refl
