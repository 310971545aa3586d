-- The cases of what `read` gave, as `reading_of` sets them out.
use Prim.Native.Nat.{ℕ}
use mathlib.Core.Path.{sym, ap, ap₂, ◌∙◌}
use Rattle.times.specs.declared.Reading.{Reading}
use Rattle.times.specs.Answers.{reading_of}
use Rattle.times.specs.Parts.{place_of}
use Rattle.times.proofs.answer.Goals as goal

abbrev refused : ℕ → ℕ → Reading
refused p f = record { answer = 10; place = p; value = 0; form = f }

pub returns-in_default : goal.returns-in_default
returns-in_default c =
    let e = c.in_default.is in
    record { time = c.read-time.result; reads = c.read-time.ensures; is = ap₂ refused (c.place.ensures ∙ ap place_of e) c.form_number.ensures ∙ sym (ap reading_of e) }

pub returns : goal.returns
returns c =
    record {
      time = c.read-time.result;
      reads = c.read-time.ensures;
      is = ap (λ (f : ℕ). record { answer = 0; place = 0; value = c.in-Value.value; form = f }) c.form_number-2.ensures ∙ sym (ap reading_of c.in-Value.is);
    }
