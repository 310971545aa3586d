-- Every line asks for something, and line 1 says something: the readers' steps, followed to the end.
use Prim.Native.Nat.{ℕ}
use mathlib.Core.Path.{◌≡◌}
use mathlib.Core.List.{List, ◌++◌}
use lib.ListN.{length}
use Rattle.std.specs.Prelude.{Option, Some, None}
use Rattle.ground.specs.Texts.{ascii}
use Rattle.ground.proofs.Cases.{below_or, same_or}
use Rattle.dates.specs.declared.date.Date.{Date}
use Rattle.dates.specs.Texts.{Numbered, DatedBy, DatingOf}
use Rattle.dates.proofs.Decided.{number_decided, dating_decided}
use Rattle.machine.specs.Rows.{Row, whole, spoiled}
use Rattle.lines.specs.declared.Order.{Order}
use Rattle.lines.specs.declared.Order.TheVariants.{Make, End, Unreadable}
use Rattle.lines.specs.Words.{Asked as AskedPlain}
use Rattle.lines.proofs.Decided.{asked_decided as asked-plain-decided}
use Rattle.ground.proofs.Beginnings.{begins_or}
use Rattle.year_lines.specs.declared.Slip.{Slip}
use Rattle.year_lines.specs.declared.Slip.TheVariants.{Dated, Plain}
use Rattle.year_lines.specs.Slips.{NamesYear, Asked, plain, RowNames, RowAsks}
use Rattle.year_lines.proofs.Years.{names_other, names_long, names_unwritten, names_early, names_year}
use Rattle.year_lines.proofs.Slips.{undated, asked_dated, uncalled}

pub names_decided : (line : List ℕ) → (n : Option ℕ) × NamesYear line n
names_decided line =
    begins_or (ascii "year ") line
    (λ b. same_or (length b.0) 4 (λ h. go b.0 b.1 h (number_decided b.0)) (λ h. (None, names_long b.1 h)))
    (λ b. (None, names_other line (λ part e. b (part, e))))
  where
    go : (part : List ℕ) → line ≡ ascii "year " ++ part → length part ≡ 4 → (r : Option ℕ) × Numbered part r → (n : Option ℕ) × NamesYear line n
    go part e h (None, n) = (None, names_unwritten e h n)
    go part e h (Some y, n) = below_or y 1600 (λ l. (None, names_early e h n l)) (λ l. (Some y, names_year e h n l))

module _ (m : ℕ) (line : List ℕ) where
  -- what stands behind a date, and the line itself
  dated_decided : {d : Date} {rest : List ℕ} → DatedBy line d rest → (o : Order) × AskedPlain m rest o → (o : Order) × AskedPlain m line o
      → (s : Slip) × Asked m line s
  dated_decided {d} w (Make c f, a) b = (Dated d c f, asked_dated w a)
  dated_decided w (End, a) b = (Plain b.0, plain (uncalled w a (λ c f e. cc)) b.1)
  dated_decided w (Unreadable, a) b = (Plain b.0, plain (uncalled w a (λ c f e. cc)) b.1)

  pub asked_decided : (s : Slip) × Asked m line s
  asked_decided = go (dating_decided line) (asked-plain-decided m line)
    where
      go : (r : Option Date) × DatingOf line r → (o : Order) × AskedPlain m line o → (s : Slip) × Asked m line s
      go (None, n) b = (Plain b.0, plain (undated n) b.1)
      go (Some d, w) b = dated_decided w.1 (asked-plain-decided m w.0) b

pub row_names_decided : (row : Row) → (n : Option ℕ) × RowNames row n
row_names_decided (whole line) = let w = names_decided line in (w.0, RowNames.read w.1)
row_names_decided spoiled = (None, RowNames.lost)

pub row_asks_decided : (m : ℕ) (row : Row) → (s : Slip) × RowAsks m row s
row_asks_decided m (whole line) = let w = asked_decided m line in (w.0, RowAsks.read w.1)
row_asks_decided m spoiled = (Plain Unreadable, RowAsks.lost)
