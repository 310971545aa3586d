-- Entries at 3^m and above are not read: two sheets that agree below are written as the same text.
use Prim.Native.Nat.{ℕ, ◌<◌, ◌≤◌}
use mathlib.Core.Path.{sym, subst}
use mathlib.Core.List.{List, ◌++◌}
use lib.ListN.{length, drop}
use Rattle.lists.specs.Lists.{FirstShortest}
use Rattle.sheet.specs.Record.{Record, in_class, not_out}
use Rattle.sheet.specs.Sound.{record_of}
use Rattle.sheet.specs.Entries.{Agree}
use Rattle.sheet.specs.declared.Sheet.{Sheet}
use Rattle.sheet.specs.Told.{Value}
use Rattle.sheet.proofs.Agrees.{agree_back, record_same, class_ready_same}
use Rattle.pla.specs.Writing.{pla_text}
use Rattle.pla.specs.Answers.{WritesPla, spoiled, short, written}

-- the list is that of the record
same_list : {s u : Sheet} → Agree s u → {l : List ℕ} → FirstShortest s.marks (in_class (record_of s)) (not_out (record_of s)) l
    → FirstShortest u.marks (in_class (record_of u)) (not_out (record_of u)) l
same_list a {l} f = subst (λ (x : Record). FirstShortest x.marks (in_class x) (not_out x) l) (record_same a) f

pub writes_pla_alike : {most : ℕ} {s u : Sheet} {out later : List ℕ} {v : Value} → Agree s u → WritesPla most s out v later → WritesPla most u out v later
writes_pla_alike a (spoiled n) = spoiled (λ r. n (class_ready_same (agree_back a) r))
writes_pla_alike {out = out} a (short {l} r f h) =
    short (class_ready_same a r) (same_list a f) (subst (λ (m : ℕ). length out < length (pla_text m l)) a.marks h)
writes_pla_alike {most} {u = u} {out = out} a (written {l} r f h) =
    subst (λ (m : ℕ). WritesPla most u out (record { number = 0; value = length (pla_text m l) }) (pla_text m l ++ drop (length (pla_text m l)) out)) (sym a.marks)
    (written (class_ready_same a r) (same_list a f) (subst (λ (m : ℕ). length (pla_text m l) ≤ length out) a.marks h))
