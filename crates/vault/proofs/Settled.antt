-- No two returns meet the contract of an entry, the lent bytes included, since each call on a sheet has one answer.
use Prim.Native.Nat.{ℕ}
use mathlib.Core.Path.{◌≡◌, refl, sym, ◌∙◌}
use mathlib.Core.List.{List}
use Rattle.sheet.specs.Limits.{most_marks, entries}
use Rattle.sheet.specs.Record.{Table}
use Rattle.sheet.specs.Answers.{ClassSize}
use Rattle.sheet.specs.declared.Sheet.{Sheet}
use Rattle.sheet.specs.Told.{Answer}
use Rattle.sheet.proofs.Settled.{size_settled}
use Rattle.pla.specs.Answers.{ReadsPla, WritesPla}
use Rattle.pla.proofs.Settled.{reads_pla_settled, writes_pla_settled}
use Rattle.listing.specs.Listing.{Listed}
use Rattle.totals.specs.Totals.{Totalled}
use Rattle.listing.proofs.Settled.{list_settled}
use Rattle.totals.proofs.Settled.{total_settled}
use Rattle.checking.specs.declared.Verdict.{Verdict}
use Rattle.checking.proofs.Settled.{check_settled}
use Rattle.lent.proofs.Settled.{stored_alone, changes_by_settled, tells_settled, lends_settled}
use Rattle.lent.specs.declared.Reply.{Reply}
use Rattle.lent.specs.Entries.{ChangesBy, Changes, Tells, Judges, Lends, Compared, KeptAt, same}

pub changes_settled : {call : Sheet → Answer} {t out x y : List ℕ} {r z : Reply} → Changes call t out r x → Changes call t out z y → (r ≡ z) × (x ≡ y)
changes_settled {t = t} p q = changes_by_settled (stored_alone t) p q

pub vault_read_pla_settled : {t out x y : List ℕ} {r z : Reply} → ChangesBy (ReadsPla most_marks entries t) same out r x
    → ChangesBy (ReadsPla most_marks entries t) same out z y → (r ≡ z) × (x ≡ y)
vault_read_pla_settled p q = changes_by_settled (λ a b. reads_pla_settled) p q

pub vault_size_settled : {t : List ℕ} {r z : Reply} → Tells (ClassSize most_marks) t r → Tells (ClassSize most_marks) t z → r ≡ z
vault_size_settled = tells_settled (λ s v w. size_settled)

pub vault_total_settled : {t : List ℕ} {r z : Reply} → Tells (Totalled most_marks) t r → Tells (Totalled most_marks) t z → r ≡ z
vault_total_settled = tells_settled (λ s v w. total_settled)

pub vault_kept_settled : (k : Table) (b : ℕ) {t : List ℕ} {r z : Reply} → Tells (KeptAt k b) t r → Tells (KeptAt k b) t z → r ≡ z
vault_kept_settled k b = tells_settled (λ s v w p q. p ∙ sym q)

pub vault_check_settled : {t l : List ℕ} {r z : Verdict} → Judges t l r → Judges t l z → r ≡ z
vault_check_settled = tells_settled (λ s v w. check_settled)

pub vault_list_settled : {t area x y : List ℕ} {r z : Reply} → Lends (Listed most_marks) t area r x → Lends (Listed most_marks) t area z y → (r ≡ z) × (x ≡ y)
vault_list_settled = lends_settled (λ s area v w x y. list_settled)

pub vault_write_pla_settled : {t area x y : List ℕ} {r z : Reply} → Lends (WritesPla most_marks) t area r x → Lends (WritesPla most_marks) t area z y → (r ≡ z) × (x ≡ y)
vault_write_pla_settled = lends_settled (λ s area v w x y. writes_pla_settled)

pub before_settled : {first second : List ℕ} {r z : Reply} → Compared first second r → Compared first second z → r ≡ z
before_settled (Compared.keeps p) (Compared.keeps q) = refl
before_settled (Compared.keeps p) (Compared.changes q) = absurd (p q)
before_settled (Compared.changes p) (Compared.keeps q) = absurd (q p)
before_settled (Compared.changes p) (Compared.changes q) = refl
