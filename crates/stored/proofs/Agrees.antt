-- Entries at 3^m and above are not read: two sheets that agree below are written alike.
use Prim.Native.Nat.{ℕ, ◌<◌, ◌≤◌}
use mathlib.Core.Path.{sym, subst}
use mathlib.Core.List.{List, ◌++◌}
use lib.ListN.{length, drop}
use Rattle.sheet.specs.Record.{Record}
use Rattle.sheet.specs.Entries.{Agree}
use Rattle.sheet.specs.declared.Sheet.{Sheet}
use Rattle.sheet.specs.Told.{Value}
use Rattle.sheet.proofs.Agrees.{agree_back, record_same, ready_same}
use Rattle.stored.specs.Answers.{Writes}
use Rattle.stored.specs.Form.{form}

pub writes_alike : {most : ℕ} {s u : Sheet} {out later : List ℕ} {v : Value} → Agree s u → Writes most s out v later → Writes most u out v later
writes_alike a (Writes.spoiled n) = Writes.spoiled (λ r. n (ready_same (agree_back a) r))
writes_alike {out = out} a (Writes.short r l) = Writes.short (ready_same a r) (subst (λ (x : Record). length out < length (form x)) (record_same a) l)
writes_alike {most} {u = u} {out = out} a (Writes.written r l) =
    subst (λ (x : Record). Writes most u out (record { number = 0; value = length (form x) }) (form x ++ drop (length (form x)) out)) (sym (record_same a))
    (Writes.written (ready_same a r) (subst (λ (x : Record). length (form x) ≤ length out) (record_same a) l))
