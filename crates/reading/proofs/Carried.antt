-- The groups behind the sections: how the run goes over a group, from one to the next, and over the count in front of them; a profile is read where it is
-- complete and obeyed.
use Rattle.std.proofs.Common.{◌≡◌, ◌∙◌, ℕ, zero, suc, ◌-◌, ◌^◌, ◌<◌, refl, sym, ap, true, false, List, [], ◌∷◌, length, arith}
use native.Mathlib.Numerals.{sub-one}
use borrow.Author.Tests.{ne_eqb, lt-ltb, ltb-true}
use Rattle.ground.proofs.Cases.{same_or}
use Rattle.tables.specs.Tables.{entry}
use Rattle.profiles.specs.Profiles.{may_follow, followed, breaks, count_ok}
use Rattle.profiles.specs.declared.Profile.{Profile}
use Rattle.profiles.specs.declared.Profile.TheVariants.{None}
use Rattle.refusals.specs.declared.Refusal.{Refusal}
use Rattle.refusals.specs.declared.Refusal.TheVariants.{Unreadable}
use Rattle.sheet.specs.Limits.{most_marks}
use Rattle.sheet.specs.Record.{Record, with_profile, Obeys}
use Rattle.stored.specs.Fields.{due, groups, group, perhaps, complete, end, groups_due, judge, Outcome, Run, done, without, with, broken, obeyed}
use Rattle.sections.specs.Places.{offset_of, Fits, Faulty}
use Rattle.sections.specs.Parts.{Leads, Stops}
use Rattle.sections.specs.declared.fields.Fields.{Fields}
use Rattle.sections.proofs.Offsets.{start as at_start, then, then_stops, field_taken, field_missed, field_barred}
use Rattle.reading.specs.Parts.{Carried, Dropped, With, Covered, ProfileBefore}

-- where the bytes end there is no profile, and elsewhere its count is due
module _ (r : Record) where
  some_left : (at : ℕ) (l : List ℕ) (o : Outcome) → 0 < length l → Run most_marks (due (groups r at)) at l o → Run most_marks (perhaps r) at l o
  some_left at [] o h x = absurd (omega arith)
  some_left at (b ∷ l) o h x = with x

  nothing_more : (at : ℕ) (o : Outcome) → Run most_marks (end r) at [] o → Run most_marks (perhaps r) at [] o
  nothing_more at _ done = without

  none_left : (at : ℕ) (l : List ℕ) (o : Outcome) → length l ≡ 0 → Run most_marks (end r) at l o → Run most_marks (perhaps r) at l o
  none_left at [] o e x = nothing_more at o x
  none_left at (b ∷ l) o e x = absurd (omega arith)

  perhaps_some : (f : Fields) → 0 < length f.rest.now → Leads (perhaps r) f (due (groups r (offset_of f))) f
  perhaps_some f h = record { on = λ o x. some_left (offset_of f) f.rest.now o h x }

  perhaps_none : (f : Fields) → length f.rest.now ≡ 0 → r.profile ≡ None → Leads (perhaps r) f (end (with_profile None r)) f
  perhaps_none f h e = record { on = λ o x. none_left (offset_of f) f.rest.now o h (rw (← e) at x) }

-- a group
module _ {m : ℕ} {p : Profile} {r : Record} (start left : ℕ) (b : With m p r) where
  follows : (g : ℕ) → may_follow r.marks r.profile g ≡ may_follow m p g
  follows g = rw (b.marks, b.profile)

  pub group_taken : {f h : Fields} {g : ℕ} → Fits f 1 0 255 h g → may_follow m p g ≡ true
      → Leads (due (group r start left)) f (groups_due (with_profile (followed p g) r) start left) h
  unfolding judge
  group_taken {f} {h} {g} v may = field_taken (group r start left) refl f v (groups_due (with_profile (followed p g) r) start left) (rw (follows g ∙ may, b.profile))

  pub group_barred : {f h : Fields} {g : ℕ} → Fits f 1 0 255 h g → may_follow m p g ≡ false → Stops (due (group r start left)) f (Unreadable (offset_of f))
  unfolding judge
  group_barred {f} {h} {g} v bar = field_barred (group r start left) refl f v (rw (follows g ∙ bar))

  group_missed : {f : Fields} {e : Refusal} → Faulty f 1 0 255 e → Stops (due (group r start left)) f e
  group_missed {f} w = field_missed (group r start left) refl f w (λ x small never. absurd (never (omega arith) (omega arith)))

module _ {m : ℕ} {p : Profile} {f h : Fields} {g : ℕ} (v : Fits f 1 0 255 h g) (start left : ℕ) where
  pub group_carried : may_follow m p g ≡ true → Carried (With m p) (λ (r : Record). due (group r start left)) (λ (r : Record). groups_due r start left) f h (followed p g)
  group_carried may = record { leads = λ r b. group_taken start left b v may }

  pub group_dropped : may_follow m p g ≡ false → Dropped (With m p) (λ (r : Record). due (group r start left)) f (Unreadable (offset_of f))
  group_dropped bar = record { stops = λ r b. group_barred start left b v bar }

pub group_faulty : {m : ℕ} {p : Profile} {f : Fields} {e : Refusal} → Faulty f 1 0 255 e → (start left : ℕ)
    → Dropped (With m p) (λ (r : Record). due (group r start left)) f e
group_faulty w start left = record { stops = λ r b. group_missed start left b w }

-- one group after another, `left` of n

groups_some : (r : Record) (start left : ℕ) → 0 < left → groups_due r start left ≡ due (group r start (left - 1))
groups_some r start zero h = absurd (omega arith)
groups_some r start (suc k) h = ap (λ (j : ℕ). due (group r start j)) (sym (sub-one (suc k)))

groups_end : (r : Record) (start left : ℕ) → left ≡ 0 → groups_due r start left ≡ complete r start
groups_end r start zero e = refl
groups_end r start (suc k) e = absurd (omega arith)

pub record GroupsReached (m n : ℕ) (f g : Fields) (p : Profile) (left : ℕ) : Type 0 where
  pub carried : (start : ℕ) → Carried (With m None) (λ (r : Record). groups_due r start n) (λ (r : Record). groups_due r start left) f g p

pub groups_none : (m n : ℕ) (f : Fields) → GroupsReached m n f f None n
groups_none m n f = record {
  carried = λ start. record { leads = λ r b. rw (← b.profile) (at_start (groups_due r start n) f) };
}

module _ {m n : ℕ} {f g : Fields} {p : Profile} {left : ℕ} (v : GroupsReached m n f g p left) where
  pub groups_done : left ≡ 0 → (start : ℕ) → Carried (With m None) (λ (r : Record). groups_due r start n) (λ (r : Record). complete r start) f g p
  groups_done e start = record { leads = λ r b. rw (← groups_end (with_profile p r) start left e) ((v.carried start).leads r b) }

  module _ (some : 0 < left) where
    pub groups_more : {h : Fields} {q : Profile}
        → ((start left : ℕ) → Carried (With m p) (λ (r : Record). due (group r start left)) (λ (r : Record). groups_due r start left) g h q)
        → GroupsReached m n f h q (left - 1)
    groups_more {h} {q} w = record {
      carried = λ start. record {
        leads = λ r b.
            then ((v.carried start).leads r b)
            (rw (groups_some (with_profile p r) start left some) ((w start (left - 1)).leads (with_profile p r) (record { marks = b.marks; profile = refl })));
      };
    }

    pub groups_dropped : {e : Refusal} → ((start left : ℕ) → Dropped (With m p) (λ (r : Record). due (group r start left)) g e)
        → (start : ℕ) → Dropped (With m None) (λ (r : Record). groups_due r start n) f e
    groups_dropped w start = record {
      stops = λ r b.
          then_stops ((v.carried start).leads r b)
          (rw (groups_some (with_profile p r) start left some) ((w start (left - 1)).stops (with_profile p r) (record { marks = b.marks; profile = refl })));
    }

-- the count in front of them
module _ {f : Fields} (r : Record) (some : 0 < length f.rest.now) where
  pub profile_counted : {g : Fields} {n : ℕ} → Fits f 2 1 2 g n → Leads (perhaps r) f (groups_due r (offset_of f) n) g
  unfolding judge count_ok
  profile_counted {g} {n} v =
      let two : (n ≡ 1 → ⊥) → n ≡ 2 = λ q. omega (arith, v.least, v.most) in
      then (perhaps_some r f some)
      (field_taken (groups r (offset_of f)) refl f v (groups_due r (offset_of f) n) (same_or n 1 (λ e. rw e) (λ q. rw (two q))))

  pub profile_uncounted : {e : Refusal} → Faulty f 2 1 2 e → Stops (perhaps r) f e
  unfolding judge count_ok
  profile_uncounted w =
      then_stops (perhaps_some r f some)
      (field_missed (groups r (offset_of f)) refl f w
      (λ x small never. rw (ne_eqb x 1 (λ e. never (omega arith) (omega arith)), ne_eqb x 2 (λ e. never (omega arith) (omega arith)))))

-- whether the record that was read obeys them
module _ {m : ℕ} {eithers : List ℕ} {r : Record} (b : ProfileBefore m eithers r) (p : Profile) where
  same_size : 2 ^ r.marks ≡ 2 ^ m
  same_size = ap (λ (x : ℕ). 2 ^ x) b.plain.marks

  told_obeys : Covered m p eithers → Obeys (with_profile p r)
  told_obeys h c l x =
      let lc : c < 2 ^ m = omega (arith, same_size) in
      b.told c lc ∙ lt-ltb 0 (entry eithers c) (h c lc (ap (λ (k : ℕ). breaks k p c) (sym b.plain.marks) ∙ x))

  obeys_told : Obeys (with_profile p r) → Covered m p eithers
  obeys_told o c l x =
      ltb-true 0 (entry eithers c) (sym (b.told c l) ∙ o c (omega (arith, same_size)) (ap (λ (k : ℕ). breaks k p c) b.plain.marks ∙ x))

module _ {m : ℕ} {eithers : List ℕ} {f : Fields} where
  pub profile_none : length f.rest.now ≡ 0 → Carried (ProfileBefore m eithers) perhaps end f f None
  profile_none h = record { leads = λ r b. perhaps_none r f h b.plain.profile }

  module _ (some : 0 < length f.rest.now) where
    pub profile_missed : {e : Refusal} → Faulty f 2 1 2 e → Dropped (ProfileBefore m eithers) perhaps f e
    profile_missed w = record { stops = λ r b. profile_uncounted r some w }

    module _ {g : Fields} {n : ℕ} (v : Fits f 2 1 2 g n) where
      pub profile_dropped : {e : Refusal} → ((start : ℕ) → Dropped (With m None) (λ (r : Record). groups_due r start n) g e)
          → Dropped (ProfileBefore m eithers) perhaps f e
      profile_dropped w = record { stops = λ r b. then_stops (profile_counted r some v) ((w (offset_of f)).stops r b.plain) }

      module _ {h : Fields} {p : Profile}
          (w : (start : ℕ) → Carried (With m None) (λ (r : Record). groups_due r start n) (λ (r : Record). complete r start) g h p) where
        to_complete : (r : Record) → ProfileBefore m eithers r → Leads (perhaps r) f (complete (with_profile p r) (offset_of f)) h
        to_complete r b = then (profile_counted r some v) ((w (offset_of f)).leads r b.plain)

        pub profile_obeyed : Covered m p eithers → Carried (ProfileBefore m eithers) perhaps end f h p
        profile_obeyed c = record { leads = λ r b. then (to_complete r b) (record { on = λ o x. obeyed (told_obeys b p c) x }) }

        pub profile_broken : (Covered m p eithers → ⊥) → Dropped (ProfileBefore m eithers) perhaps f (Unreadable (offset_of f))
        profile_broken never = record {
          stops = λ r b. then_stops (to_complete r b) (record { run = broken (λ o. never (obeys_told b p o)) });
        }
