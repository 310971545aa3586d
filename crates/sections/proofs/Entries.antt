-- The entries of a section: how the run goes from one combination to the next, and what the loop over them keeps.
use Prim.Native.Nat.{ℕ, zero, suc, ◌+◌, ◌-◌, ◌^◌, ◌≤◌, ◌<◌}
use mathlib.Core.Path.{◌≡◌, refl, sym, ap, ◌∙◌, subst}
use mathlib.Core.Bool.{true, false}
use mathlib.Core.List.{List}
use Rattle.std.specs.Prelude.{Result, Ok, Err}
use native.Mathlib.Nat.{one-le-pow}
use native.Mathlib.Numerals.{sub-one}
use native.Mathlib.Omega.{arith}
use lib.Dec.{eqb}
use lib.ListN.{length, set, length-set}
use borrow.Author.Tests.{le-leb, lt-leb, lt-ltb, le-ltb, eq-eqb, ne_eqb}
use Rattle.ground.proofs.Cases.{below_or, same_or}
use Rattle.tables.specs.Tables.{entry}
use Rattle.refusals.specs.declared.Refusal.{Refusal}
use Rattle.refusals.specs.declared.Refusal.TheVariants.{Unreadable}
use Rattle.sheet.specs.Limits.{most_held}
use Rattle.sheet.specs.Record.{Record}
use Rattle.stored.specs.Sections.{Rest, bytes_behind, takes, held_in, added}
use Rattle.stored.specs.Fields.{Next, due, count, combination, behind, rest_due, entries_due, judge}
use Rattle.stored.specs.declared.Section.{Section}
use Rattle.stored.proofs.Sections.{held_more}
use Rattle.sections.specs.Places.{offset_of, Behind, Fits, Faulty}
use Rattle.sections.specs.Parts.{Leads, Stops, least, has_in, with_own, ReadBefore, Got, Missed, PartRead}
use Rattle.sections.specs.declared.form.Form.{Form}
use Rattle.sections.specs.declared.fields.Fields.{Fields}
use Rattle.sections.proofs.Offsets.{behind_none, behind_more, fits_behind, start as at_start, then, then_stops, field_taken, field_missed, field_barred}
use Rattle.sections.proofs.Own.{own_marks, own_start, set_here, set_other, own_added, own_none, own_takes, may_stand-true, may_not, own_most}

-- a combination is due where some are left, and what follows the section where none is
entries_some : (s : Section) (rest : Rest) (r : Record) (left low : ℕ) → 0 < left → entries_due s rest r left low ≡ due (combination s rest r (left - 1) low)
entries_some s rest r zero low h = absurd (omega arith)
entries_some s rest r (suc k) low h = ap (λ (j : ℕ). due (combination s rest r j low)) (sym (sub-one (suc k)))

pub entries_none : (s : Section) (rest : Rest) (r : Record) (left low : ℕ) → left ≡ 0 → entries_due s rest r left low ≡ rest_due rest r
entries_none s rest r zero low e = refl
entries_none s rest r (suc k) low e = absurd (omega arith)

-- a count, with the section's combinations behind it
module _ {m : ℕ} (s : Section) (rest : Rest) (r : Record) (em : r.marks ≡ m) where
  same_size : 2 ^ r.marks ≡ 2 ^ m
  same_size = ap (λ (x : ℕ). 2 ^ x) em

  pub count_taken : {f g : Fields} {n : ℕ} → Fits f 2 0 (2 ^ m) g n → Leads (due (count s rest r)) f (entries_due s rest r n 0) g
  unfolding judge
  count_taken {f = f} {n = n} v =
      field_taken (count s rest r) refl f v (entries_due s rest r n 0) (rw (le-leb n (2 ^ r.marks) (omega (arith, same_size, v.most))))

  pub count_missed : {f : Fields} {e : Refusal} → Faulty f 2 0 (2 ^ m) e → Stops (due (count s rest r)) f e
  unfolding judge
  count_missed {f = f} v =
      field_missed (count s rest r) refl f v
      (λ x small n. below_or (2 ^ r.marks) x (λ q. rw (lt-leb x (2 ^ r.marks) q)) (λ q. absurd (n (omega arith) (omega (arith, same_size)))))

-- a combination
module _ {m : ℕ} (s : Section) (rest : Rest) (r : Record) (left : ℕ) (some : 0 < left) (em : r.marks ≡ m) where
  top : (2 ^ r.marks ≡ 2 ^ m) × (1 ≤ 2 ^ m)
  top = (ap (λ (x : ℕ). 2 ^ x) em, one-le-pow m 2 (omega arith))

  module _ {f g : Fields} {low c : ℕ} (v : Fits f 1 low (2 ^ m - 1) g c) where
    inside : c < 2 ^ r.marks
    inside = omega (arith, v.most, top.0, top.1)

    pub combination_taken : takes s r c ≡ true → Leads (entries_due s rest r left low) f (due (behind s rest r (left - 1) c)) g
    unfolding judge
    combination_taken ok =
        rw (entries_some s rest r left low some)
        (field_taken (combination s rest r (left - 1) low) refl f v (due (behind s rest r (left - 1) c))
        (rw (le-leb low c v.least, lt-ltb c (2 ^ r.marks) inside, ok)))

    pub combination_barred : takes s r c ≡ false → Stops (entries_due s rest r left low) f (Unreadable (offset_of f))
    unfolding judge
    combination_barred bar =
        rw (entries_some s rest r left low some)
        (field_barred (combination s rest r (left - 1) low) refl f v (rw (le-leb low c v.least, lt-ltb c (2 ^ r.marks) inside, bar)))

  pub combination_missed : {f : Fields} {low : ℕ} {e : Refusal} → Faulty f 1 low (2 ^ m - 1) e → Stops (entries_due s rest r left low) f e
  unfolding judge
  combination_missed {f = f} {low = low} v =
      let e = top in
      rw (entries_some s rest r left low some)
      (field_missed (combination s rest r (left - 1) low) refl f v
      (λ x small n. below_or x low (λ q. rw (lt-leb low x q))
      (λ q. below_or x (2 ^ r.marks) (λ p. absurd (n q (omega arith))) (λ p. rw (le-leb low x q, le-ltb x (2 ^ r.marks) p)))))

-- the number behind it
module _ {f : Fields} {sum : ℕ} (s : Section) (rest : Rest) (r : Record) (left c : ℕ) (h : sum ≤ most_held) (es : held_in r ≡ sum) where
  pub behind_taken : {g : Fields} {x : ℕ} → Fits f (bytes_behind s) (least s) (most_held - sum) g x
      → Leads (due (behind s rest r left c)) f (entries_due s rest (added s r c x) left (c + 1)) g
  unfolding judge
  behind_taken {x = x} v =
      field_taken (behind s rest r left c) refl f v (entries_due s rest (added s r c x) left (c + 1))
      (rw (es, may_stand-true s sum x h v.small v.least v.most))

  pub behind_missed : {e : Refusal} → Faulty f (bytes_behind s) (least s) (most_held - sum) e → Stops (due (behind s rest r left c)) f e
  unfolding judge
  behind_missed v = field_missed (behind s rest r left c) refl f v (λ x small n. rw (es, may_not s sum x h small n))

-- What the loop keeps: it stands at the combinations from `low` on, `left` of them, with `sum` seconds so far.
pub record EntriesReached (s : Section) (m : ℕ) (barred : List ℕ) (n : ℕ) (f g : Fields) (own : List ℕ) (low left sum : ℕ) : Type 0 where
  pub got : Got s m barred (λ (rest : Rest) (r : Record). entries_due s rest r n 0) (λ (rest : Rest) (r : Record). entries_due s rest r left low) f g own
  pub clear : (c : ℕ) → low ≤ c → c < 2 ^ m → entry own c ≡ 0
  pub sum_is : (r : Record) → ReadBefore s m barred r → held_in (with_own s (entry own) r) ≡ sum
  pub sum_most : sum ≤ most_held

-- nothing is read yet
module _ (s : Section) (m : ℕ) (barred : List ℕ) (own : List ℕ) (clear : (c : ℕ) → c < 2 ^ m → entry own c ≡ 0) where
  as_before : (r : Record) → ReadBefore s m barred r → with_own s (entry own) r ≡ r
  as_before r b = own_start (entry own) {r = r} (λ c l. clear c (omega (arith, ap (λ (x : ℕ). 2 ^ x) b.marks))) s b.none

  pub reached_none : (n : ℕ) (f : Fields) → 2 ^ m ≤ length own → EntriesReached s m barred n f f own 0 n 0
  reached_none n f long = record {
    got = record {
      behind = behind_none f;
      long = long;
      most = λ c l. omega (arith, clear c l);
      leads = λ rest r b. subst (λ (q : Record). Leads (entries_due s rest r n 0) f (entries_due s rest q n 0) f) (sym (as_before r b)) (at_start (entries_due s rest r n 0) f);
    };
    clear = λ c z l. clear c l;
    sum_is = λ r b. ap held_in (as_before r b) ∙ b.nothing_held;
    sum_most = omega arith;
  }

module _ {s : Section} {m : ℕ} {barred : List ℕ} {n : ℕ} {f g : Fields} {own : List ℕ} {low left sum : ℕ} (v : EntriesReached s m barred n f g own low left sum) where
  pub reached_end : left ≡ 0 → Got s m barred (λ (rest : Rest) (r : Record). entries_due s rest r n 0) rest_due f g own
  reached_end e = record {
    behind = v.got.behind;
    long = v.got.long;
    most = v.got.most;
    leads = λ rest r b.
        subst (λ (u : Next). Leads (entries_due s rest r n 0) f u g) (entries_none s rest (with_own s (entry own) r) left low e) (v.got.leads rest r b);
  }

  module _ (some : 0 < left) where
    -- a wrong combination
    pub entry_missed : {e : Refusal} → Faulty g 1 low (2 ^ m - 1) e → Missed s m barred (λ (rest : Rest) (r : Record). entries_due s rest r n 0) f e
    entry_missed w = record {
      stops = λ rest r b. then_stops (v.got.leads rest r b) (combination_missed s rest (with_own s (entry own) r) left some (own_marks s (entry own) r ∙ b.marks) w);
    }

    module _ {h : Fields} {c : ℕ} (read : Fits g 1 low (2 ^ m - 1) h c) where
      c_m : c < 2 ^ m
      c_m = omega (arith, read.most, one-le-pow m 2 (omega arith))

      -- whether the section takes it
      taken_by : (r : Record) → ReadBefore s m barred r → takes s (with_own s (entry own) r) c ≡ eqb (entry barred c) 0
      taken_by r b = own_takes (entry own) r c (v.clear c read.least c_m) s ∙ b.taken c c_m

      pub entry_barred : (entry barred c ≡ 0 → ⊥) → Missed s m barred (λ (rest : Rest) (r : Record). entries_due s rest r n 0) f (Unreadable (offset_of g))
      entry_barred bar = record {
        stops = λ rest r b.
            then_stops (v.got.leads rest r b)
            (combination_barred s rest (with_own s (entry own) r) left some (own_marks s (entry own) r ∙ b.marks) read (taken_by r b ∙ ne_eqb _ 0 bar));
      }

      module _ (ok : entry barred c ≡ 0) where
        -- where the number behind it is due
        to_behind : (rest : Rest) (r : Record) → ReadBefore s m barred r
            → Leads (entries_due s rest r n 0) f (due (behind s rest (with_own s (entry own) r) (left - 1) c)) h
        to_behind rest r b =
            then (v.got.leads rest r b)
            (combination_taken s rest (with_own s (entry own) r) left some (own_marks s (entry own) r ∙ b.marks) read (taken_by r b ∙ eq-eqb _ 0 ok))

        pub number_missed : {e : Refusal} → Faulty h (bytes_behind s) (least s) (most_held - sum) e
            → Missed s m barred (λ (rest : Rest) (r : Record). entries_due s rest r n 0) f e
        number_missed w = record {
          stops = λ rest r b.
              then_stops (to_behind rest r b) (behind_missed s rest (with_own s (entry own) r) (left - 1) c v.sum_most (v.sum_is r b) w);
        }

        pub reached_more : {i : Fields} {x : ℕ} → Fits h (bytes_behind s) (least s) (most_held - sum) i x
            → EntriesReached s m barred n f i (set own c (has_in s x)) (c + 1) (left - 1) (sum + x)
        reached_more {i} {x} w =
            let y = has_in s x in
            let c_own : c < length own = omega (arith, v.got.long, c_m) in
            let other : (z : ℕ) → (z ≡ c → ⊥) → entry (set own c y) z ≡ entry own z = set_other own c y c_own in
            let most = own_most s x (omega (arith, v.sum_most, w.most)) in
            let same : (r : Record) → ReadBefore s m barred r → added s (with_own s (entry own) r) c x ≡ with_own s (entry (set own c y)) r =
            λ r b. own_added own c x c_own s r (omega (arith, c_m, ap (λ (j : ℕ). 2 ^ j) b.marks)) in
            record {
              got = record {
                behind = behind_more (behind_more v.got.behind (fits_behind read)) (fits_behind w);
                long = omega (arith, length-set own c y, v.got.long);
                most = λ z l. same_or z c
                    (λ q. omega (arith, ap (entry (set own c y)) q, set_here own c y c_own, most))
                    (λ q. omega (arith, other z q, v.got.most z l));
                leads = λ rest r b.
                    subst (λ (q : Record). Leads (entries_due s rest r n 0) f (entries_due s rest q (left - 1) (c + 1)) i) (same r b)
                    (then (to_behind rest r b) (behind_taken s rest (with_own s (entry own) r) (left - 1) c v.sum_most (v.sum_is r b) w));
              };
              clear = λ z lz l. other z (λ q. omega arith) ∙ v.clear z (omega (arith, read.least)) l;
              sum_is = λ r b.
                  let inside : c < 2 ^ (with_own s (entry own) r).marks = omega (arith, c_m, ap (λ (j : ℕ). 2 ^ j) (own_marks s (entry own) r ∙ b.marks)) in
                  ap held_in (sym (same r b))
                  ∙ held_more s (with_own s (entry own) r) c x inside (own_none (entry own) r c (v.clear c read.least c_m) s (b.none c)) w.small
                  ∙ ap (λ (j : ℕ). j + x) (v.sum_is r b);
              sum_most = omega (arith, v.sum_most, w.most);
            }

-- a part behind what leads to it
module _ (s : Section) (barred : List ℕ) {from from₁ : Rest → Record → Next} (f f₁ : Form) (same : f₁.marks ≡ f.marks) (on : Behind f.fields f₁.fields)
    (l : (rest : Rest) (r : Record) → ReadBefore s f.marks barred r → Leads (from rest r) f.fields (from₁ rest r) f₁.fields) where
  got_after : (g : Form) (own : List ℕ) → Got s f.marks barred from₁ rest_due f₁.fields g.fields own → Got s f.marks barred from rest_due f.fields g.fields own
  got_after g own v = record { behind = behind_more on v.behind; long = v.long; most = v.most; leads = λ rest r b. then (l rest r b) (v.leads rest r b) }

  missed_after : (e : Refusal) → Missed s f.marks barred from₁ f₁.fields e → Missed s f.marks barred from f.fields e
  missed_after e v = record { stops = λ rest r b. then_stops (l rest r b) (v.stops rest r b) }

  pub part_after : (g : Form) (result : Result (List ℕ) Refusal) → PartRead s barred from₁ f₁ g result → PartRead s barred from f g result
  part_after g (Ok own) v = (v.0 ∙ same, got_after g own (subst (λ (m : ℕ). Got s m barred from₁ rest_due f₁.fields g.fields own) same v.1))
  part_after g (Err e) v = missed_after e (subst (λ (m : ℕ). Missed s m barred from₁ f₁.fields e) same v)
