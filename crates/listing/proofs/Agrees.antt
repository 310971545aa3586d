-- Entries at 3^m and above are not read: two sheets that agree below get the same list.
use Prim.Native.Nat.{ℕ}
use mathlib.Core.Path.{ap, subst}
use mathlib.Core.List.{List}
use native.Mathlib.Omega.{arith}
use Rattle.lists.specs.Lists.{most_lines}
use Rattle.sheet.specs.Record.{Record, in_class, not_out}
use Rattle.sheet.specs.Entries.{Agree}
use Rattle.sheet.specs.declared.Sheet.{Sheet}
use Rattle.sheet.specs.Told.{Value}
use Rattle.sheet.proofs.Agrees.{agree_back, record_same, class_ready_same}
use Rattle.listing.specs.Listing.{Laid, Listed}

pub list_alike : {most : ℕ} {s u : Sheet} {area later : List ℕ} {v : Value} → Agree s u → Listed most s area v later → Listed most u area v later
list_alike a (Listed.spoiled n) = Listed.spoiled (λ r. n (class_ready_same (agree_back a) r))
list_alike a (Listed.short r l) = Listed.short (class_ready_same a r) (omega (arith, ap most_lines a.marks))
list_alike {area = area} {later} a (Listed.given {n} r l w) =
    Listed.given (class_ready_same a r) (omega (arith, ap most_lines a.marks))
    (subst (λ (x : Record). Laid x.marks (in_class x) (not_out x) area n later) (record_same a) w)
