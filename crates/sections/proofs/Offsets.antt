-- A field that comes next in a form: its number, and how the run goes on where it is taken, faulty, or not complete.
use Rattle.std.proofs.Common.{◌≡◌, ◌∙◌, ℕ, zero, suc, ◌+◌, ◌-◌, ◌*◌, ◌^◌, ◌≤◌, ◌<◌, refl, sym, ap, subst, List, [], ◌∷◌, length, get_or, take, drop, arith}
use Rattle.std.proofs.lemmas.List.{drop-drop}
use native.Mathlib.Nat.{pow-le-pow_right}
use native.Mathlib.Numerals.{sub-one}
use lib.ListN.{length-drop}
use Rattle.refusals.specs.declared.Refusal.{Refusal}
use Rattle.refusals.specs.declared.Refusal.TheVariants.{Unreadable}
use Rattle.sheet.specs.Limits.{most_marks}
use Rattle.sheet.specs.Record.{Record}
use Rattle.stored.specs.Fields.{number_in, Due, width, Next, due, end, wrong, judge, good, refused, Run, done, over, early, faulty}
use Rattle.stored.proofs.Runs.{goes}
use Rattle.sections.specs.Parts.{Leads, Stops}
use Rattle.sections.specs.Places.{offset_of, number_at, Behind, Fits, Faulty, early as field_early, wrong as field_wrong}
use Rattle.sections.specs.declared.fields.Fields.{Fields}

-- the number of some bytes

pub number_small : (n i : ℕ) → n < 256 ^ i → i ≤ 3 → n < 16777216
number_small n i h l = omega (arith, pow-le-pow_right {n = 256} (omega arith) {i = i} {j = 3} l)

pub number_none : (l : List ℕ) → length l ≡ 0 → 0 ≡ number_in l
unfolding number_in
number_none [] e = refl
number_none (b ∷ l) e = absurd (omega arith)

-- the number of the bytes from the i-th on, which one byte more makes
number_more : (l : List ℕ) (i : ℕ) → i < length l → number_in (drop i l) ≡ get_or l i 0 + number_in (drop (suc i) l) * 256
unfolding number_in
number_more [] i h = absurd (omega arith)
number_more (b ∷ l) zero h = refl
number_more (b ∷ l) (suc i) h = number_more l i (omega arith)

pub number_grows : (l : List ℕ) (i n b : ℕ) → 0 < i → i ≤ length l → n ≡ number_in (drop i l) → b ≡ get_or l (i - 1) 0 → n * 256 + b ≡ number_in (drop (i - 1) l)
number_grows l zero n b h k e q = absurd (omega arith)
number_grows l (suc i) n b h k e q =
    let at : b ≡ get_or l i 0 = q ∙ ap (λ (j : ℕ). get_or l j 0) (sub-one (suc i)) in
    omega (arith, number_more l i (omega arith), e, at, ap (λ (j : ℕ). number_in (drop j l)) (sub-one (suc i)))

pub number_fits : (n i j b : ℕ) → n < 256 ^ i → b < 256 → j ≡ suc i → n * 256 + b < 256 ^ j
number_fits n i j b h k e = rw e (omega (arith, h, k))

-- a cursor behind another

pub behind_none : (f : Fields) → Behind f f
behind_none f = record { size = refl; passed = 0; rest = refl }

pub behind_more : {f g h : Fields} → Behind f g → Behind g h → Behind f h
behind_more {f} a b = record {
  size = b.size ∙ a.size;
  passed = a.passed + b.passed;
  rest = b.rest ∙ ap (drop b.passed) a.rest ∙ drop-drop b.passed a.passed f.rest.now;
}

pub fits_behind : {f g : Fields} {k low high n : ℕ} → Fits f k low high g n → Behind f g
fits_behind {k = k} v = record { size = v.size; passed = k; rest = v.rest }

-- runs

pub start : (s : Next) (f : Fields) → Leads s f s f
start s f = record { on = λ o r. r }

pub then : {s u v : Next} {f g h : Fields} → Leads s f u g → Leads u g v h → Leads s f v h
then x y = record { on = λ o r. x.on o (y.on o r) }

pub then_stops : {s u : Next} {f g : Fields} {e : Refusal} → Leads s f u g → Stops u g e → Stops s f e
then_stops x y = record { run = x.on _ y.run }

-- A field that was read, d being due: its number is judged good if it is `low` to `high`, and what is due behind it goes on at the cursor g.
module _ (d : Due) {k : ℕ} (wide : width d ≡ k) (f : Fields) where
  judged_at : (x : ℕ) (u : Next) → x ≡ number_at f k → judge most_marks d x ≡ u → judge most_marks d (number_in (take (width d) f.rest.now)) ≡ u
  judged_at x u e j = rw (wide, ← e) j

  module _ {low high : ℕ} where
    pub field_taken : {g : Fields} {n : ℕ} → Fits f k low high g n → (u : Next) → judge most_marks d n ≡ u → Leads (due d) f u g
    field_taken {g} {n} v u judged = record {
      on = λ o r.
          let place : offset_of g ≡ offset_of f + width d = omega (arith, f.within, g.within, v.inside, v.size, ap length v.rest, length-drop k f.rest.now, wide) in
          let rest : g.rest.now ≡ drop (width d) f.rest.now = v.rest ∙ ap (λ (j : ℕ). drop j f.rest.now) (sym wide) in
          goes d f.rest.now u (omega (arith, v.inside, wide)) (judged_at n u v.number judged) (rw (← place, ← rest) r);
    }

    pub field_missed : {e : Refusal} → Faulty f k low high e
        → ((x : ℕ) → x < 256 ^ k → (low ≤ x → x ≤ high → ⊥) → judge most_marks d x ≡ wrong 10) → Stops (due d) f e
    field_missed (field_early l) judged =
        let e : offset_of f + length f.rest.now ≡ f.size = omega (arith, f.within) in
        let short : length f.rest.now < width d = omega (arith, l, wide) in
        record { run = subst (λ (p : ℕ). Run most_marks (due d) (offset_of f) f.rest.now (refused 10 p)) e (early short) }
    field_missed (field_wrong h small w) judged =
        record { run = faulty (omega (arith, h, wide)) (judged_at (number_at f k) (wrong 10) refl (judged (number_at f k) small w)) }

    -- a number within the limits, and wrong all the same
    pub field_barred : {g : Fields} {n : ℕ} → Fits f k low high g n → judge most_marks d n ≡ wrong 10 → Stops (due d) f (Unreadable (offset_of f))
    field_barred {g} {n} v judged = record { run = faulty (omega (arith, v.inside, wide)) (judged_at n (wrong 10) v.number judged) }

-- where all is read
module _ (r : Record) (f : Fields) where
  pub left_over : 0 < length f.rest.now → Stops (end r) f (Unreadable (offset_of f))
  left_over h = record { run = more_left f.rest.now h }
    where
      more_left : (l : List ℕ) → 0 < length l → Run most_marks (end r) (offset_of f) l (refused 10 (offset_of f))
      more_left [] h = absurd (omega arith)
      more_left (b ∷ l) h = over

  pub all_read : length f.rest.now ≡ 0 → Run most_marks (end r) (offset_of f) f.rest.now (good r)
  all_read e = none_left f.rest.now e
    where
      none_left : (l : List ℕ) → length l ≡ 0 → Run most_marks (end r) (offset_of f) l (good r)
      none_left [] e = done
      none_left (b ∷ l) e = absurd (omega arith)
