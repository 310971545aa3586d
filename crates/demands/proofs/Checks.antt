-- A finding is `Fitting` exactly if the list fits, for one that fits has no fault; and what `list` gives fits by demand 2.
use Prim.Native.Nat.{ℕ}
use mathlib.Core.Path.{◌≡◌, refl, sym, ◌∙◌, ap, subst}
use mathlib.Core.List.{List, ◌∷◌, ◌++◌}
use native.Mathlib.Omega.{arith}
use lib.ListN.{length, take, drop}
use lib.Seq.{take_at}
use Rattle.lists.proofs.Fit.{fits_swapped}
use Rattle.sheet.specs.Limits.{most_marks}
use Rattle.sheet.specs.Sound.{ClassReady}
use Rattle.sheet.specs.declared.Sheet.{Sheet}
use Rattle.sheet.specs.Told.{Value}
use Rattle.listing.specs.Listing.{Listed}
use Rattle.checking.specs.Faults.{Judged}
use Rattle.checking.specs.Answers.{Checked, verdict_of}
use Rattle.checking.specs.declared.Fault.{Fault}
use Rattle.checking.specs.Finding.{Finding}
use Rattle.checking.specs.Finding.Finding.{Fitting, Faulty}
use Rattle.checking.specs.declared.Verdict.{Verdict}
use Rattle.checking.proofs.Settled.{check_settled}
use Rattle.checking.proofs.Some.{check_some}
use Rattle.lent.specs.Entries.{Lends, TellsAs, Judges}
use Rattle.lent.specs.declared.Reply.{Reply}
use Rattle.vault.proofs.Settled.{vault_check_settled}
use Rattle.demands.specs.Checks.{FitsClass, FirstFaultIn, CheckedIn, Checks}
use Rattle.demands.proofs.Demand2.{demand_2}
use Rattle.demands.proofs.Sevens.{SevenIf, as_listed}

checked_seven : {s : Sheet} {l : List ℕ} {x : Finding} → Checked most_marks s l x → SevenIf s (verdict_of x).answer
checked_seven (Checked.spoiled n) = (λ e. n, λ k. refl)
checked_seven (Checked.judged r (Judged.fits f)) = (λ (e : ◌≡◌ {A = ℕ} 0 7). absurd (omega arith), λ k. absurd (k r))
checked_seven (Checked.judged r (Judged.faulty f)) = (λ (e : ◌≡◌ {A = ℕ} 0 7). absurd (omega arith), λ k. absurd (k r))

accepted : {s : Sheet} {l : List ℕ} → Checked most_marks s l Fitting → ClassReady most_marks s × FitsClass s l
accepted (Checked.judged r (Judged.fits f)) = (r, f)

accepts : {s : Sheet} {l : List ℕ} {x : Finding} → Checked most_marks s l x → ClassReady most_marks s → FitsClass s l → x ≡ Fitting
accepts c r f = check_settled c (Checked.judged r (Judged.fits f))

any_order : {s : Sheet} (k l : List ℕ) (a b : ℕ) → Checked most_marks s (k ++ a ∷ b ∷ l) Fitting → Checked most_marks s (k ++ b ∷ a ∷ l) Fitting
any_order {s} k l a b c = let x = accepted c in Checked.judged x.0 (Judged.fits (fits_swapped s.marks k a b l x.1))

otherwise : {s : Sheet} {l : List ℕ} {x : Finding} → Checked most_marks s l x → ClassReady most_marks s → (FitsClass s l → ⊥)
    → (f : Fault) × (i : ℕ) × (x ≡ Faulty f i) × FirstFaultIn s l f i
otherwise (Checked.spoiled n) r k = absurd (n r)
otherwise (Checked.judged q (Judged.fits f)) r k = absurd (k f)
otherwise (Checked.judged q (Judged.faulty {f} {i} p)) r k = (f, i, refl, p)

-- what `list` gave fits
front : {s : Sheet} {area later : List ℕ} {v : Value} → Listed most_marks s area v later → v.number ≡ 0 → ClassReady most_marks s × FitsClass s (take v.value later)
front {s} {area} {later} {v} w z =
    let p = demand_2.printed w z in
    let e = ap (take v.value) p.stands ∙ take_at p.lines (drop (length p.lines) area) v.value (sym p.size) in
    (ready w z, subst (FitsClass s) (sym e) p.of_class.right.fits)
  where
    ready : {area later : List ℕ} {v : Value} → Listed most_marks s area v later → v.number ≡ 0 → ClassReady most_marks s
    ready (Listed.spoiled n) e = absurd (omega arith)
    ready (Listed.short r h) e = r
    ready (Listed.given r h w) e = r

given : {s : Sheet} {area later : List ℕ} {v : Value} {x : Finding} → Listed most_marks s area v later → v.number ≡ 0
    → Checked most_marks s (take v.value later) x → x ≡ Fitting
given w z c = let f = front w z in accepts c f.0 f.1

entry : {t l : List ℕ} {r : Verdict} → Judges t l r → r.answer ≡ 0 → CheckedIn t l r
entry (TellsAs.unread u) z = absurd (u.bad (sym (ap (λ (x : Verdict). x.answer) u.reply) ∙ z))
entry (TellsAs.told {s = s} {a = x} h c) z = record { sheet = s; held_in = h; finding = x; checked = c; told = refl }

entry_given : {t area later : List ℕ} {r : Reply} {w : Verdict} → Lends (Listed most_marks) t area r later → r.answer ≡ 0 → Judges t (take r.value later) w
    → w ≡ verdict_of Fitting
entry_given (Lends.unread u) z j = absurd (u.bad (sym (ap (λ (x : Reply). x.answer) u.reply) ∙ z))
entry_given (Lends.lent h w) z j =
    let f = front w z in vault_check_settled j (TellsAs.told h (Checked.judged f.0 (Judged.fits f.1)))

-- LISTS THAT OTHERS DREW
pub checks : Checks
checks = record {
  some = check_some most_marks;
  one = check_settled;
  seven = λ c. as_listed (checked_seven c);
  accepted = λ c. (accepted c).1;
  accepts = accepts;
  any_order = any_order;
  otherwise = otherwise;
  given = given;
  entry = entry;
  entry_one = vault_check_settled;
  entry_given = entry_given;
}
