-- Line 1: behind `year ` stands a number of four digits, or the line names no year.
use Prim.Native.Nat.{ℕ, ◌<◌, ◌≤◌}
use mathlib.Core.Path.{◌≡◌, sym, ap, ◌∙◌, subst}
use mathlib.Core.List.{List, ◌++◌}
use native.Mathlib.Omega.{arith}
use lib.ListN.{length, drop}
use Rattle.std.specs.Prelude.{Some, None}
use Rattle.ground.specs.Texts.{ascii}
use Rattle.dates.specs.Texts.{Writes, Numbered}
use Rattle.ground.proofs.Figures.{figures-length}
use Rattle.dates.proofs.Numbers.{writes_same, number_long}
use Rattle.year_lines.specs.Slips.{YearLine, NamesYear, year, other}

pub names_other : (line : List ℕ) → ((part : List ℕ) → line ≡ ascii "year " ++ part → ⊥) → NamesYear line None
names_other line b = other (λ y k. b k.number k.text)

-- the part behind `year `

module _ {line part : List ℕ} (e : line ≡ ascii "year " ++ part) where
  pub year_part : {y : ℕ} → YearLine line y → Writes 4 part y
  year_part {y} k = subst (λ (l : List ℕ). Writes 4 l y) (ap (drop 5) (sym k.text ∙ e)) k.writes

  pub names_long : (length part ≡ 4 → ⊥) → NamesYear line None
  names_long q = other (λ y k. let w = year_part k in q (ap length w.text ∙ figures-length 10 4 y))

  pub names_unwritten : length part ≡ 4 → Numbered part None → NamesYear line None
  names_unwritten h n = other (λ y k. n y (subst (λ (j : ℕ). Writes j part y) (sym h) (year_part k)))

  pub names_early : {y : ℕ} → length part ≡ 4 → Numbered part (Some y) → y < 1600 → NamesYear line None
  names_early h n l = other (λ z k. omega (arith, k.from, writes_same (year_part k) (number_long h n)))

  pub names_year : {y : ℕ} → length part ≡ 4 → Numbered part (Some y) → 1600 ≤ y → NamesYear line (Some y)
  names_year h n l = year (record { from = l; number = part; writes = number_long h n; text = e })
