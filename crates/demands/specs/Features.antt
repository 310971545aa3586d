-- FEATURES HAVE HOURS (02, Q-3). Which texts are running times, and in which form, is defined in times/specs; here stands what was asked of the reading and
-- of those who call it, a field for each sentence.
use Rattle.std.specs.Prelude.{Option, Some}
use Rattle.std.specs.Prelude.{ℕ, ◌≡◌, List}
use Rattle.ground.specs.Texts.{ascii}
use Rattle.times.specs.declared.Form.{Form}
use Rattle.times.specs.declared.Form.TheVariants.{Minutes, Hours}
use Rattle.times.specs.declared.Time.{Time}
use Rattle.times.specs.declared.Time.TheVariants.{Value, Fault}
use Rattle.times.specs.declared.Reading.{Reading}
use Rattle.times.specs.Texts.{InMinutes, InHours, Readable}
use Rattle.times.specs.Places.{Place, ReadsAs}
use Rattle.times.specs.Answers.{Answered}
use Rattle.dates.specs.declared.date.Date.{Date}
use Rattle.changes.specs.declared.Call.{Call}
use Rattle.changes.specs.declared.Call.TheVariants.{Receive, Withdraw}
use Rattle.machine.specs.Rows.{rows, SameBut}
use Rattle.lines.specs.declared.Order.{Order}
use Rattle.lines.specs.declared.Order.TheVariants.{Make}
use Rattle.lines.specs.Words.{NamesAmount, Asked}
use Rattle.lines.specs.Forms.{OtherForm}
use Rattle.year_lines.specs.declared.Slip.{Slip}
use Rattle.year_lines.specs.declared.Slip.TheVariants.{Dated}
use Rattle.year_lines.specs.Slips.{SaysOn, Asked as AskedInYear}
use Rattle.desk.specs.Prints.{Prints}
use Rattle.year.specs.Prints.{Prints as PrintsYear}

pub record Features : Type 0 where
  -- every text reads as one thing: the reader takes `H:MM:SS` too, and `M:SS` as before, and says which form it met
  pub some : (t : List ℕ) → (x : Time) × ReadsAs Readable t x
  pub one : {t : List ℕ} {x y : Time} → ReadsAs Readable t x → ReadsAs Readable t y → x ≡ y
  pub hours : {t : List ℕ} {v : ℕ} {x : Time} → InHours t v → ReadsAs Readable t x → x ≡ Value v Hours
  pub minutes : {t : List ℕ} {v : ℕ} {x : Time} → InMinutes t v → ReadsAs Readable t x → x ≡ Value v Minutes
  -- any other text has a place, found as before, now over both forms
  pub other : {t : List ℕ} {x : Time} → ((v : ℕ) → InHours t v → ⊥) → ((v : ℕ) → InMinutes t v → ⊥) → ReadsAs Readable t x → (p : ℕ) × (x ≡ Fault p) × Place Readable t p
  -- every caller passes the form on: the answer, which is that of the entry for C too,
  pub told_hours : {t : List ℕ} {v : ℕ} {r : Reading} → InHours t v → Answered t r → r ≡ record { answer = 0; place = 0; value = v; form = 2 }
  pub told_minutes : {t : List ℕ} {v : ℕ} {r : Reading} → InMinutes t v → Answered t r → r ≡ record { answer = 0; place = 0; value = v; form = 1 }
  pub told_none : {t : List ℕ} {r : Reading} → Answered t r → (r.answer ≡ 0 → ⊥) → r.form ≡ 0
  -- and what a line of the desk, or of a year, asks for
  pub receives : {m c d : ℕ} {f : Form} {line : List ℕ} {o : Order} → NamesAmount m (ascii "recv ") line c d f → Asked m line o → o ≡ Make (Receive c d) (Some f)
  pub withdraws : {m c d : ℕ} {f : Form} {line : List ℕ} {o : Order} → NamesAmount m (ascii "gone ") line c d f → Asked m line o → o ≡ Make (Withdraw c d) (Some f)
  pub on_day : {m : ℕ} {day : Date} {c : Call} {f : Option Form} {line : List ℕ} {s : Slip} → SaysOn m line day c f → AskedInYear m line s → s ≡ Dated day c f
  -- the desk prints as today: lines, within their 40 bytes, whose running times are written in the other form print the same
  pub holdings : (input other : List ℕ) {output : List ℕ} → SameBut OtherForm (rows input) (rows other) → Prints input output → Prints other output
  pub months : (input other : List ℕ) {output : List ℕ} → SameBut OtherForm (rows input) (rows other) → PrintsYear input output → PrintsYear other output
