-- A date in front of a line, byte by byte: digits from 0, 5 and 8 on, `-` at 4 and 7, a space at 10, and the rest from 11 on.
use Prim.Native.Nat.{ℕ, ◌<◌, ◌≤◌}
use mathlib.Core.Path.{◌≡◌, refl, sym, ap, ◌∙◌}
use mathlib.Core.List.{List}
use native.Mathlib.Omega.{arith}
use lib.ListN.{length, get_or, take, drop, length-drop, take-append-drop}
use lib.Seq.{take-suc, take-add, length-take-le}
use Rattle.ground.specs.Figures.{figures}
use Rattle.std.specs.Prelude.{Some, None}
use Rattle.dates.specs.declared.date.Date.{Date}
use Rattle.dates.specs.Texts.{Numbered, date_text, DatedBy, DatingOf}
use Rattle.dates.proofs.Numbers.{writes_same, number_long}

module _ {line : List ℕ} {d : Date} {rest : List ℕ} (w : DatedBy line d rest) where
  pub dated_long : 11 ≤ length line
  unfolding figures date_text
  dated_long = rw w.text (omega arith)

  dated_year : Numbered (take 4 line) (Some d.year)
  unfolding figures date_text
  dated_year = rw w.text (record { small = w.year; text = refl })

  dated_dash : get_or line 4 0 ≡ 45
  unfolding figures date_text
  dated_dash = rw w.text

  dated_month : Numbered (take 2 (drop 5 line)) (Some d.month)
  unfolding figures date_text
  dated_month = rw w.text (record { small = w.month; text = refl })

  dated_dash_2 : get_or line 7 0 ≡ 45
  unfolding figures date_text
  dated_dash_2 = rw w.text

  dated_day : Numbered (take 2 (drop 8 line)) (Some d.day)
  unfolding figures date_text
  dated_day = rw w.text (record { small = w.day; text = refl })

  dated_space : get_or line 10 0 ≡ 32
  unfolding figures date_text
  dated_space = rw w.text

  pub dated_rest : rest ≡ drop 11 line
  unfolding figures date_text
  dated_rest = rw w.text

-- a line is dated in one way

same_date : (d e : Date) → d.year ≡ e.year → d.month ≡ e.month → d.day ≡ e.day → d ≡ e
same_date d e y m k =
    ap (λ (x : ℕ). record { year = x; month = d.month; day = d.day }) y
    ∙ ap (λ (x : ℕ). record { year = e.year; month = x; day = d.day }) m
    ∙ ap (λ (x : ℕ). record { year = e.year; month = e.month; day = x }) k

pub dated_one : {line : List ℕ} {d e : Date} {rest more : List ℕ} → DatedBy line d rest → DatedBy line e more → (d ≡ e) × (rest ≡ more)
dated_one {line} {d} {e} p q = (
  same_date d e (writes_same (dated_year p) (dated_year q)) (writes_same (dated_month p) (dated_month q)) (writes_same (dated_day p) (dated_day q)),
  dated_rest p ∙ sym (dated_rest q),
)

-- a line that is not so

module _ (line : List ℕ) where
  pub dating_short : length line < 11 → DatingOf line None
  dating_short h = λ d rest w. omega (arith, dated_long w)

  pub dating_dash : (get_or line 4 0 ≡ 45 → ⊥) → DatingOf line None
  dating_dash n = λ d rest w. n (dated_dash w)

  pub dating_dash_2 : (get_or line 7 0 ≡ 45 → ⊥) → DatingOf line None
  dating_dash_2 n = λ d rest w. n (dated_dash_2 w)

  pub dating_space : (get_or line 10 0 ≡ 32 → ⊥) → DatingOf line None
  dating_space n = λ d rest w. n (dated_space w)

  pub dating_year : Numbered (take 4 line) None → DatingOf line None
  dating_year n = λ d rest w. n d.year (dated_year w)

  pub dating_month : Numbered (take 2 (drop 5 line)) None → DatingOf line None
  dating_month n = λ d rest w. n d.month (dated_month w)

  pub dating_day : Numbered (take 2 (drop 8 line)) None → DatingOf line None
  dating_day n = λ d rest w. n d.day (dated_day w)

  -- and one that is
  pub dating_on : (d : Date) → 11 ≤ length line → get_or line 4 0 ≡ 45 → get_or line 7 0 ≡ 45 → get_or line 10 0 ≡ 32
      → Numbered (take 4 line) (Some d.year) → Numbered (take 2 (drop 5 line)) (Some d.month) → Numbered (take 2 (drop 8 line)) (Some d.day)
      → DatingOf line (Some d)
  unfolding date_text
  dating_on d h p q r y m k =
      let a = number_long (length-take-le 4 line (omega arith)) y in
      let b = number_long (length-take-le 2 (drop 5 line) (omega (arith, length-drop 5 line))) m in
      let c = number_long (length-take-le 2 (drop 8 line) (omega (arith, length-drop 8 line))) k in (
        drop 11 line,
        record {
          year = a.small;
          month = b.small;
          day = c.small;
          text = cc (take-append-drop 11 line, take-suc line 10 0 (omega arith), take-add 8 2 line, take-suc line 7 0 (omega arith), take-add 5 2 line, take-suc line 4 0 (omega arith), p, q, r, a.text, b.text, c.text);
        },
      )
