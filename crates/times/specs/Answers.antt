-- The answer of a reading as the desk and a C program see it (01, 'Numbers the desk may see'; 02, Q-3).
use Rattle.std.specs.Prelude.{ℕ, ◌≡◌, List, Option, None, Some}
use Rattle.times.specs.declared.Form.{Form}
use Rattle.times.specs.declared.Form.TheVariants.{Minutes, Hours}
use Rattle.times.specs.declared.Time.{Time}
use Rattle.times.specs.declared.Time.TheVariants.{Value, Fault}
use Rattle.times.specs.declared.Reading.{Reading}
use Rattle.times.specs.Texts.{Readable}
use Rattle.times.specs.Places.{ReadsAs}

-- the form as a number, 0 where there is none
abbrev pub form_number : Option Form → ℕ
form_number None = 0
form_number (Some Minutes) = 1
form_number (Some Hours) = 2

-- 0, the value and its form, or 10 and the place; a refused running time has value 0 and no form, and the place is 0 for every answer but 10
abbrev pub reading_of : Time → Reading
reading_of (Value v f) = record { answer = 0; place = 0; value = v; form = form_number (Some f) }
reading_of (Fault p) = record { answer = 10; place = p; value = 0; form = form_number None }

-- the reply to a text is that of what it reads as
pub record Answered (t : List ℕ) (r : Reading) : Type 0 where
  pub time : Time
  pub reads : ReadsAs Readable t time
  pub is : r ≡ reading_of time
