-- Entries at 3^m and above are not read: two sheets that agree below have the same total.
use Prim.Native.Nat.{ℕ}
use mathlib.Core.Path.{sym, subst}
use Rattle.sheet.specs.Record.{Record}
use Rattle.sheet.specs.Entries.{Agree}
use Rattle.sheet.specs.declared.Sheet.{Sheet}
use Rattle.sheet.specs.Told.{Value}
use Rattle.sheet.proofs.Agrees.{agree_back, record_same, ready_same}
use Rattle.totals.specs.Totals.{total_of, Totalled}

pub total_alike : {most : ℕ} {s u : Sheet} {v : Value} → Agree s u → Totalled most s v → Totalled most u v
total_alike a (Totalled.spoiled n) = Totalled.spoiled (λ r. n (ready_same (agree_back a) r))
total_alike {most} {s} {u} a (Totalled.told r) =
    subst (λ (x : Record). Totalled most u (record { number = 0; value = total_of x })) (sym (record_same a)) (Totalled.told (ready_same a r))
