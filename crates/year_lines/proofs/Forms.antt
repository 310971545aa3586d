-- A line of a year whose running time is written in another form asks for the same: a date has no colon.
use Prim.Native.Nat.{ℕ}
use mathlib.Core.Path.{sym, ap, ◌∙◌, subst}
use mathlib.Core.List.{List, ◌++◌}
use native.Mathlib.Omega.{arith}
use Rattle.std.specs.Prelude.{Option}
use Rattle.ground.specs.Texts.{ascii}
use Rattle.ground.proofs.Without.{Without, without_append}
use Rattle.ground.proofs.Figures.{figures_without}
use Rattle.times.specs.declared.Form.{Form}
use Rattle.dates.specs.declared.date.Date.{Date}
use Rattle.dates.specs.Texts.{digits, date_text}
use Rattle.changes.specs.declared.Call.{Call}
use Rattle.lines.specs.Forms.{OtherForm}
use Rattle.lines.specs.declared.Order.{Order}
use Rattle.lines.proofs.Forms.{flip, has_colon, call_again, SameCall, other_asked}
use Rattle.year_lines.specs.declared.Slip.{Slip}
use Rattle.year_lines.specs.declared.Slip.TheVariants.{Dated, Plain}
use Rattle.year_lines.specs.Slips.{YearLine, NamesYear, year, SaysOn, Asked}

digits_plain : (k n : ℕ) → Without 58 (digits k n)
digits_plain k n = figures_without 10 (omega arith) 58 k n (λ x h e. omega arith)

date_plain : (d : Date) → Without 58 (date_text d ++ ascii " ")
unfolding date_text Without
date_plain d =
    without_append 58 (digits 4 d.year ++ ascii "-" ++ digits 2 d.month ++ ascii "-" ++ digits 2 d.day) (ascii " ")
    (without_append 58 (digits 4 d.year ++ ascii "-" ++ digits 2 d.month ++ ascii "-") (digits 2 d.day)
    (without_append 58 (digits 4 d.year ++ ascii "-" ++ digits 2 d.month) (ascii "-")
    (without_append 58 (digits 4 d.year ++ ascii "-") (digits 2 d.month)
    (without_append 58 (digits 4 d.year) (ascii "-") (digits_plain 4 d.year) (λ e. omega arith, tt)) (digits_plain 2 d.month)) (λ e. omega arith, tt))
    (digits_plain 2 d.day)) (λ e. omega arith, tt)

year_plain : {line : List ℕ} {y : ℕ} → YearLine line y → Without 58 line
unfolding Without
year_plain {y = y} w =
    subst (Without 58) (sym (w.text ∙ ap (λ (l : List ℕ). ascii "year " ++ l) w.writes.text))
    (without_append 58 (ascii "year ") (digits 4 y) (λ e. omega arith, (λ e. omega arith, (λ e. omega arith, (λ e. omega arith, (λ e. omega arith, tt))))) (digits_plain 4 y))

-- the same is asked for, but for the form
pub data SameSlip : Slip → Slip → Type 0 where
  dated : {d : Date} {c : Call} {f g : Option Form} → SameSlip (Dated d c f) (Dated d c g)
  plain : {o p : Order} → SameCall o p → SameSlip (Plain o) (Plain p)

says_on_again : {m : ℕ} {line other : List ℕ} {d : Date} {c : Call} {f : Option Form} → OtherForm line other → SaysOn m line d c f → (g : Option Form) × SaysOn m other d c g
says_on_again {d = d} o s =
    let w = call_again o (date_text d ++ ascii " ") (date_plain d) s.date.text s.call in
    (w.form, record { rest = w.rest; date = record { year = s.date.year; month = s.date.month; day = s.date.day; text = w.text }; call = w.says })

module _ {line other : List ℕ} (o : OtherForm line other) where
  pub other_slip : {m : ℕ} {s : Slip} → Asked m line s → (r : Slip) × Asked m other r × SameSlip s r
  other_slip (Asked.dated s) = let w = says_on_again o s in (Dated _ _ w.0, Asked.dated w.1, SameSlip.dated)
  other_slip (Asked.plain n a) =
      let w = other_asked o a in
      (Plain w.0, Asked.plain (λ d c f s. let k = says_on_again (flip o) s in n d c k.0 k.1) w.1, SameSlip.plain w.2)

  pub other_names : {n : Option ℕ} → NamesYear line n → NamesYear other n
  other_names (year w) = absurd (has_colon o (year_plain w))
  other_names (NamesYear.other n) = NamesYear.other (λ y w. has_colon (flip o) (year_plain w))
