-- A running time as the definition writes it, in minutes or in hours, and part by part as it is read: the same texts. So a value is at most 35,999.
use Prim.Native.Nat.{ℕ, ◌+◌, ◌*◌, ◌≤◌}
use mathlib.Core.Path.{◌≡◌, refl, sym, ap, ◌∙◌, subst}
use mathlib.Core.List.{List, [], ◌∷◌, ◌++◌, append-nil}
use native.Mathlib.Omega.{arith}
use Rattle.ground.specs.Texts.{ascii}
use Rattle.times.specs.declared.Form.{Form}
use Rattle.times.specs.declared.Form.TheVariants.{Minutes, Hours}
use Rattle.times.specs.declared.Time.{Time}
use Rattle.times.specs.Texts.{Numeral, Sixty, InMinutes, InHours, Readable, minutes, hours}
use Rattle.times.specs.Places.{ReadsAs}
use Rattle.times.specs.Parts.{Ended, Two, After, ends, goes_on, ByParts}
use Rattle.times.proofs.Places.{alike}
use Rattle.times.proofs.Fronts.{numeral_digit, one_digit}

-- two digits and nothing behind them, in the form g

last_two : (g : Form) (n : ℕ) {l : List ℕ} {x v : ℕ} → Sixty l x → v ≡ n * 60 + x → Two (Ended g n) l v g
last_two g n {l} {x} s e =
    record { digits = l; x = x; sixty = s; rest = []; text = sym (append-nil l); behind = record { nothing = refl; total = e; form = refl } }

only_two : {g f : Form} {n v : ℕ} {t : List ℕ} (p : Two (Ended g n) t v f) → t ≡ p.digits
only_two p = p.text ∙ ap (λ (z : List ℕ). p.digits ++ z) p.behind.nothing ∙ append-nil p.digits

-- a text in minutes, of its parts
pub in-minutes : (first last : List ℕ) (m s : ℕ) → Numeral first m → m ≤ 599 → Sixty last s → Readable (first ++ ascii ":" ++ last) (m * 60 + s) Minutes
in-minutes first last m s n h x =
    minutes (record { first = first; m = m; minutes = n; most = h; last = last; s = s; seconds = x; text = refl; total = refl })

-- part by part

minutes_parts : {t : List ℕ} {v : ℕ} → InMinutes t v → ByParts t v Minutes
minutes_parts r =
    record {
      first = r.first;
      n = r.m;
      numeral = r.minutes;
      small = r.most;
      rest = r.last;
      text = r.text;
      behind =
          record {
            digits = r.last;
            x = r.s;
            sixty = r.seconds;
            rest = [];
            text = sym (append-nil r.last);
            behind = ends (record { nothing = refl; total = r.total; form = refl });
          };
    }

hours_parts : {t : List ℕ} {v : ℕ} → InHours t v → ByParts t v Hours
hours_parts {t} {v} r =
    record {
      first = (48 + r.h) ∷ [];
      n = r.h;
      numeral = subst (Numeral ((48 + r.h) ∷ [])) (omega arith) (numeral_digit (48 + r.h) (omega (arith, r.most)));
      small = omega (arith, r.most);
      rest = r.middle ++ 58 ∷ r.last;
      text = r.text ∙ cc;
      behind =
          record {
            digits = r.middle;
            x = r.m;
            sixty = r.minutes;
            rest = 58 ∷ r.last;
            text = refl;
            behind = goes_on r.least r.most r.last refl (last_two Hours (r.h * 60 + r.m) r.seconds (omega (arith, r.total)));
          };
    }

pub by_parts : (t : List ℕ) (v : ℕ) (f : Form) → Readable t v f → ByParts t v f
by_parts t v Minutes (minutes r) = minutes_parts r
by_parts t v Hours (hours r) = hours_parts r

-- and as it is written

module _ {t : List ℕ} {v : ℕ} {f : Form} (r : ByParts t v f) where
  parts_minutes : Ended Minutes r.n r.behind.x r.behind.rest v f → InMinutes t v
  parts_minutes e =
      record {
        first = r.first;
        m = r.n;
        minutes = r.numeral;
        most = r.small;
        last = r.behind.digits;
        s = r.behind.x;
        seconds = r.behind.sixty;
        text =
            r.text
            ∙ ap (λ (z : List ℕ). r.first ++ ascii ":" ++ z)
            (r.behind.text ∙ ap (λ (z : List ℕ). r.behind.digits ++ z) e.nothing ∙ append-nil r.behind.digits);
        total = e.total;
      }

  parts_hours : 1 ≤ r.n → r.n ≤ 9 → (rest : List ℕ) → r.behind.rest ≡ ascii ":" ++ rest → Two (Ended Hours (r.n * 60 + r.behind.x)) rest v f → InHours t v
  parts_hours h k rest e q =
      record {
        h = r.n;
        least = h;
        most = k;
        middle = r.behind.digits;
        m = r.behind.x;
        minutes = r.behind.sixty;
        last = q.digits;
        s = q.x;
        seconds = q.sixty;
        text =
            r.text
            ∙ ap (λ (z : List ℕ). z ++ ascii ":" ++ r.rest) (one_digit r.first r.n r.numeral k)
            ∙ ap (λ (z : List ℕ). (48 + r.n) ∷ 58 ∷ z) (r.behind.text ∙ ap (λ (z : List ℕ). r.behind.digits ++ z) (e ∙ ap (λ (z : List ℕ). 58 ∷ z) (only_two q)))
            ∙ cc;
        total = omega (arith, q.behind.total);
      }

as_written : (t : List ℕ) (v : ℕ) (f : Form) → ByParts t v f → Readable t v f
as_written t v f r = go r.behind.behind
  where
    go : After r.n r.behind.x r.behind.rest v f → Readable t v f
    go (ends e) = subst (Readable t v) (sym e.form) (minutes (parts_minutes r e))
    go (goes_on h k rest e q) = subst (Readable t v) (sym q.behind.form) (hours (parts_hours r h k rest e q))

-- what is read part by part is read so
pub as_read : {t : List ℕ} {r : Time} → ReadsAs ByParts t r → ReadsAs Readable t r
as_read = alike Readable ByParts as_written by_parts

pub value_small : {t : List ℕ} {v : ℕ} {f : Form} → Readable t v f → v ≤ 35999
value_small (minutes r) = omega (arith, r.most, r.seconds.small, r.total)
value_small (hours r) = omega (arith, r.most, r.minutes.small, r.seconds.small, r.total)
