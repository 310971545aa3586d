-- A journey gives back the very sheet, by the round trip of the stored form; so a history may have any number of them.
use Prim.Native.Nat.{ℕ, ◌^◌, ◌≤◌}
use mathlib.Core.Path.{◌≡◌, refl, sym, ◌∙◌, ap, ap₂, subst}
use mathlib.Core.Bool.{Bool, cond}
use mathlib.Core.List.{List, [], ◌∷◌}
use native.Mathlib.Omega.{arith}
use lib.ListN.{length}
use borrow.Author.Tests.{lt-ltb, le-ltb}
use Rattle.ground.proofs.Cases.{clash, below_or}
use Rattle.classes.specs.Standings.{is_out}
use Rattle.sheet.specs.Limits.{most_marks, entries}
use Rattle.sheet.specs.Record.{Record, sheet_of}
use Rattle.sheet.specs.Sound.{record_of}
use Rattle.sheet.specs.declared.Sheet.{Sheet}
use Rattle.sheet.specs.Told.{Answer}
use Rattle.sheet.specs.Told.{Value}
use Rattle.stored.specs.Answers.{Reads, Writes, spoiled, short, written}
use Rattle.stored.specs.Fields.{Bytes, good, ReadingBy, Reading}
use Rattle.stored.specs.declared.Layout.{Layout}
use Rattle.stored.specs.declared.Layout.TheVariants.{Today}
use Rattle.stored.specs.Form.{form}
use Rattle.stored.specs.Told.{Read}
use Rattle.stored.proofs.IsForm.{Storable, is-form}
use Rattle.stored.proofs.Trips.{form-same, told_agrees, read_good, travels}
use Rattle.histories.specs.Histories.{Good, after_all, numbers_of}
use Rattle.histories.specs.Travels.{Event, change, travel, Happens, changed, stayed, travelled, Lives, rests, lives, event_number, after_event}
use Rattle.histories.proofs.Kept.{did_kept}
use Rattle.histories.proofs.Goods.{good_after}
use Rattle.histories.proofs.Afresh.{ready_afresh}

pub five : 3 ^ 5 ≤ entries
five = omega arith

-- the form that is written is the record's
pub form-kept : (r : Record) → Good r → form (record_of (sheet_of entries r)) ≡ form r
form-kept r g = form-same (told_agrees 5 entries five r g.marks)

pub written_number : (r : Record) → Good r → {out later : List ℕ} {v : Value} → Writes most_marks (sheet_of entries r) out v later
    → v.number ≡ event_number r (travel out)
written_number r g (spoiled h) = absurd (h (ready_afresh r g))
written_number r g {out} (short f l) =
    sym (ap (λ (t : Bool). cond t 5 0) (lt-ltb (length out) (length (form r)) (omega (arith, ap length (form-kept r g)))))
written_number r g {out} (written f l) =
    sym (ap (λ (t : Bool). cond t 5 0) (le-ltb (length out) (length (form r)) (omega (arith, ap length (form-kept r g)))))

-- one event: the number worked out from the record, and the sheet worked out afresh from the record after it
happens_kept : (r : Record) → Good r → {e : Event} {n : ℕ} {u : Sheet} → Happens (sheet_of entries r) e n u
    → (n ≡ event_number r e) × (u ≡ sheet_of entries (after_event r e))
happens_kept r g (changed k) = let w = did_kept r g k in (ap (λ (a : Answer). a.number) w, ap (λ (a : Answer). a.sheet) w)
happens_kept r g (stayed w n) = (written_number r g w, refl)
happens_kept r g (travelled {a = a} w z x) =
    let same = travels 5 entries five (omega arith) r w z x in
    (ap (λ (y : Read). y.number) same ∙ sym z ∙ written_number r g w, ap (λ (y : Read). y.sheet) same)

good_event : (r : Record) → Good r → (e : Event) → Good (after_event r e)
good_event r g (change k) = good_after r g k
good_event r g (travel out) = g

-- demand 3: every sequence of calls and journeys

from : (r : Record) → Good r → {s : Sheet} {es : List Event} {ns : List ℕ} {z : Sheet} → s ≡ sheet_of entries r → Lives s es ns z
    → (ns ≡ numbers_of event_number after_event r es) × (z ≡ sheet_of entries (after_all after_event r es))
unfolding numbers_of after_all
from r g q rests = (refl, q)
from r g q (lives {u = u} {e = e} {n = n} h l) =
    let k = happens_kept r g (subst (λ (x : Sheet). Happens x e n u) q h) in
    let i = from (after_event r e) (good_event r g e) k.1 l in
    (ap₂ (λ (x : ℕ) (y : List ℕ). x ∷ y) k.0 i.0, i.1)

pub lives_afresh : (r : Record) → Good r → {es : List Event} {ns : List ℕ} {z : Sheet} → Lives (sheet_of entries r) es ns z
    → (ns ≡ numbers_of event_number after_event r es) × (z ≡ sheet_of entries (after_all after_event r es))
lives_afresh r g l = from r g refl l

-- a record that a sheet can have can be stored
pub good_storable : {r : Record} → Good r → Storable most_marks r
good_storable g = record { marks = g.marks; profile = g.profile; obeys = g.obeys; held_le_most = g.times; apart = g.apart }

-- any other sheet that is read begins its history with what was read

pub good_read : (layout : Layout) {t : List ℕ} {r : Record} → Bytes t → ReadingBy layout most_marks t (good r) → Good r
good_read layout {t} {r} b x =
    let k = is-form layout t b x in
    record {
      marks = k.storable.marks;
      profile = k.storable.profile;
      obeys = k.storable.obeys;
      standing = λ c e. below_or c (2 ^ r.marks) (λ l. l) (λ l. clash (ap is_out (k.within.standing c l)) e);
      times = k.storable.held_le_most;
      apart = k.storable.apart;
    }

pub begins : (t : List ℕ) {a : Read} → Bytes t → Reads most_marks entries t a → a.number ≡ 0
    → (r : Record) × Reading most_marks t (good r) × Good r × (a.sheet ≡ sheet_of entries r)
begins t {a} b x z =
    let w = read_good 5 entries five x z in
    (w.0, w.1, good_read Today b w.1, ap (λ (y : Read). y.sheet) w.2)

pub good_events : (r : Record) → Good r → (es : List Event) → Good (after_all after_event r es)
unfolding after_all
good_events r g [] = g
good_events r g (e ∷ es) = good_events (after_event r e) (good_event r g e) es
