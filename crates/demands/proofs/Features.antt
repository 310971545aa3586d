-- Each field cites its layer: a text has one reading, a line asks for one thing, and a line in the other form steps alike.
use Prim.Native.Nat.{ℕ}
use mathlib.Core.Path.{◌≡◌, refl, ap, ◌∙◌}
use mathlib.Core.List.{List}
use Rattle.times.specs.declared.Form.{Form}
use Rattle.times.specs.declared.Time.{Time}
use Rattle.times.specs.declared.Time.TheVariants.{Value, Fault}
use Rattle.times.specs.declared.Reading.{Reading}
use Rattle.times.specs.Texts.{InMinutes, InHours, Readable}
use Rattle.times.specs.Places.{Place, ReadsAs, value, fault}
use Rattle.times.specs.Answers.{reading_of, Answered}
use Rattle.times.proofs.Settled.{read_settled}
use Rattle.times.proofs.Decided.{time_decided}
use Rattle.lines.specs.Words.{Says, said}
use Rattle.lines.proofs.Settled.{asked_settled}
use Rattle.year_lines.specs.Slips.{Asked}
use Rattle.year_lines.proofs.Settled.{asked_settled as slip-settled}
use Rattle.desk.proofs.Forms.{prints_again}
use Rattle.year.proofs.Forms.{prints_again as year_again}
use Rattle.demands.specs.Features.{Features}

other : {t : List ℕ} {x : Time} → ((v : ℕ) → InHours t v → ⊥) → ((v : ℕ) → InMinutes t v → ⊥) → ReadsAs Readable t x → (p : ℕ) × (x ≡ Fault p) × Place Readable t p
other h m (value (Readable.minutes r)) = absurd (m _ r)
other h m (value (Readable.hours r)) = absurd (h _ r)
other h m (fault n p) = (_, refl, p)

-- what a readable text is answered
told : {t : List ℕ} {v : ℕ} {f : Form} {r : Reading} → Readable t v f → Answered t r → r ≡ reading_of (Value v f)
told k a = a.is ∙ ap reading_of (read_settled a.reads (value k))

none : (x : Time) → ((reading_of x).answer ≡ 0 → ⊥) → (reading_of x).form ≡ 0
none (Value v f) n = absurd (n refl)
none (Fault p) n = refl

-- FEATURES HAVE HOURS
pub features : Features
features = record {
  some = time_decided;
  one = read_settled;
  hours = λ h x. read_settled x (value (Readable.hours h));
  minutes = λ m x. read_settled x (value (Readable.minutes m));
  other = other;
  told_hours = λ h. told (Readable.hours h);
  told_minutes = λ m. told (Readable.minutes m);
  told_none = λ a n. ap (λ (r : Reading). r.form) a.is ∙ none a.time (λ e. n (ap (λ (r : Reading). r.answer) a.is ∙ e));
  receives = λ n a. asked_settled a (said (Says.receives n));
  withdraws = λ n a. asked_settled a (said (Says.withdraws n));
  on_day = λ s a. slip-settled a (Asked.dated s);
  holdings = prints_again;
  months = year_again;
}
