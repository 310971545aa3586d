-- Behind a date a line is read as one of the desk: since a line is dated in one way, what that reading says settles what the line asks for.
use Prim.Native.Nat.{ℕ, ◌-◌}
use mathlib.Core.Path.{◌≡◌, sym, ◌∙◌, subst}
use mathlib.Core.List.{List}
use native.Mathlib.Omega.{arith}
use lib.ListN.{length, take, drop, length-drop}
use lib.Seq.{take_all}
use Rattle.std.specs.Prelude.{Option, None}
use Rattle.dates.specs.declared.date.Date.{Date}
use Rattle.dates.specs.Texts.{DatedBy, DatingOf}
use Rattle.dates.proofs.Dated.{dated_rest, dated_one}
use Rattle.changes.specs.declared.Call.{Call}
use Rattle.lines.specs.declared.Order.{Order}
use Rattle.times.specs.declared.Form.{Form}
use Rattle.lines.specs.declared.Order.TheVariants.{Make}
use Rattle.lines.specs.Words.{Says, Asked as AskedPlain, said}
use Rattle.lines.proofs.Settled.{asked_settled}
use Rattle.year_lines.specs.declared.Slip.TheVariants.{Dated}
use Rattle.year_lines.specs.Slips.{Asked, dated}
use Rattle.year_lines.specs.Parts.{DatedOr}

says_call : {m : ℕ} {line : List ℕ} {c : Call} {f : Option Form} → AskedPlain m line (Make c f) → Says m line (Make c f)
says_call (said s) = s

module _ {m : ℕ} {line : List ℕ} where
  pub undated : DatingOf line None → DatedOr m line None
  undated n = λ d c f s. n d s.rest s.date

  module _ {d : Date} {rest : List ℕ} (w : DatedBy line d rest) where
    -- the part behind the date, as it is lent
    pub rest_lent : {o : Order} → AskedPlain m (take (length line - 11) (drop 11 line)) o → AskedPlain m rest o
    rest_lent {o} a =
        subst (λ (t : List ℕ). AskedPlain m t o) (take_all (length line - 11) (drop 11 line) (omega (arith, length-drop 11 line)) ∙ sym (dated_rest w)) a

    pub asked_dated : {c : Call} {f : Option Form} → AskedPlain m rest (Make c f) → Asked m line (Dated d c f)
    asked_dated a = dated (record { rest = rest; date = w; call = says_call a })

    pub uncalled : {p : Order} → AskedPlain m rest p → ((c : Call) (f : Option Form) → p ≡ Make c f → ⊥) → DatedOr m line None
    uncalled a n = λ e c f s. n c f (asked_settled a (said (subst (λ (t : List ℕ). Says m t (Make c f)) (dated_one s.date w).1 s.call)))
