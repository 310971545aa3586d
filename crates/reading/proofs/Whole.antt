-- The marks in front of the sections, the record that the sections and the profile give, whichever layout, and the sheet that is worked out from what was read.
use Rattle.std.proofs.Common.{◌≡◌, ◌∙◌, ℕ, ◌^◌, ◌≤◌, ◌<◌, refl, sym, ap, subst, Bool, true, false, not, cond, ◌&&◌, List, length, arith, [], ◌∷◌}
use Rattle.std.specs.Prelude.{Result, Ok, Err, IsErrAnd}
use lib.Dec.{eqb, ltb}
use borrow.Author.Tests.{lt-ltb, eq-eqb, ne_eqb}
use Rattle.ground.proofs.Cases.{mark, same_or}
use Rattle.boxes.specs.Sums.{only}
use Rattle.boxes.proofs.Boxes.{sum_in-all}
use Rattle.boxes.proofs.Sums.{sum-zero, sum_ext, only-le}
use Rattle.tables.specs.Tables.{entry}
use Rattle.profiles.specs.declared.Profile.{Profile}
use Rattle.classes.specs.Standings.{is_in, is_either, outs, eithers}
use Rattle.classes.specs.declared.Standing.{Standing}
use Rattle.classes.specs.declared.Standing.TheVariants as standing
use Rattle.refusals.specs.Numbers.{number_of, place_of}
use Rattle.refusals.specs.declared.Refusal.{Refusal}
use Rattle.sheet.specs.Limits.{most_marks, entries}
use Rattle.sheet.specs.Record.{Record, with_profile, opened, sheet_from}
use Rattle.sheet.specs.Answers.{refused as refused_sheet}
use Rattle.sheet.specs.Parts.{Addable}
use Rattle.sheet.specs.declared.Refused.{Refused}
use Rattle.sheet.specs.declared.Sheet.{Sheet}
use Rattle.sheet.proofs.Opening.{sheet_same, ones_addable, combinations_fit}
use Rattle.stored.specs.declared.Layout.{Layout}
use Rattle.stored.specs.declared.Layout.TheVariants.{First, Today}
use Rattle.stored.specs.declared.Section.TheVariants.{Class, Either, Held}
use Rattle.stored.specs.Sections.{Rest, nothing, profile, more, sections}
use Rattle.stored.specs.Fields.{Bytes, due, marks, count, end, rest_due, judge, Outcome, good, refused, Run, early, faulty, ReadingBy}
use Rattle.stored.specs.Answers.{read_of, ReadsBy}
use Rattle.stored.specs.Told.{read_as}
use Rattle.stored.specs.Parts.{Neither}
use Rattle.stored.proofs.IsForm.{is-form}
use Rattle.stored.proofs.Runs.{goes}
use Rattle.stored.proofs.Numbers.{number_one}
use Rattle.stored.proofs.Told.{refused_told}
use Rattle.sections.specs.Places.{offset_of}
use Rattle.sections.specs.Parts.{Leads, Stops, with_own, ReadBefore, Begun, NotBegun, empty, others}
use Rattle.sections.specs.declared.form.Form.{Form}
use Rattle.sections.specs.declared.fields.Fields.{Fields}
use Rattle.sections.proofs.Offsets.{start as at_start}
use Rattle.sections.proofs.Own.{own_start}
use Rattle.reading.specs.Parts.{NoneRead, EitherFound, EitherMissed, ProfileBefore, EndFound, EndMissed}

-- what follows behind the held section, and behind the class
abbrev pub behind_held : Layout → Rest
behind_held First = nothing
behind_held Today = profile

abbrev pub behind_class : Layout → Rest
behind_class First = more Held (behind_held First)
behind_class Today = more Either (more Held (behind_held Today))

class_first : (layout : Layout) → sections layout ≡ more Class (behind_class layout)
class_first First = refl
class_first Today = refl

none_read : (layout : Layout) (l : List ℕ) → length l ≡ 0 → ReadingBy layout most_marks l (refused 10 0)
none_read layout [] e = early {d = marks (sections layout)} (omega arith)
none_read layout (b ∷ l) e = absurd (omega arith)

module _ (layout : Layout) {t : List ℕ} where
  -- what a `?` passes on, the run having stopped there
  pub refusal_read : (result : Result Sheet Refused) (e : Refusal) → IsErrAnd result (λ r. r ≡ refused_sheet entries e)
      → ReadingBy layout most_marks t (refused (number_of e) (place_of e)) → ReadsBy layout most_marks entries t (read_as result)
  refusal_read (Ok s) e p w = absurd p
  refusal_read (Err r) e p w = record {
    outcome = refused (number_of e) (place_of e);
    run = w;
    is = ap (λ (x : Refused). read_as (Err x)) p ∙ refused_told entries e;
  }

  -- no marks, or faulty ones
  pub marks_missed : (e : Refusal) → NotBegun t e → ReadingBy layout most_marks t (refused (number_of e) (place_of e))
  unfolding judge
  marks_missed _ (empty e) = none_read layout t e
  marks_missed _ (others m l e bad) =
      subst (λ (x : List ℕ). ReadingBy layout most_marks x (refused 1 0)) (sym e)
      (faulty {d = marks (sections layout)} (omega arith) (rw (number_one m l, bad)))

  -- behind marks that a sheet may have
  module _ {f : Form} (b : Begun t f) where
    pub marks_taken : (o : Outcome) → Run most_marks (due (count Class (behind_class layout) (opened f.marks))) (offset_of f.fields) f.fields.rest.now o → ReadingBy layout most_marks t o
    unfolding judge
    marks_taken o r =
        let at : offset_of f.fields ≡ 1 = omega (arith, b.size, ap length b.bytes) in
        subst (λ (x : List ℕ). ReadingBy layout most_marks x o) (sym b.bytes)
        (goes (marks (sections layout)) (f.marks ∷ f.fields.rest.now) (due (count Class (behind_class layout) (opened f.marks))) (omega arith)
        (rw (number_one f.marks f.fields.rest.now, b.ok) (ap (λ (rest : Rest). rest_due rest (opened f.marks)) (class_first layout))) (rw (← at) r))

-- what was read up to the either section, up to the held one, up to the profile, and in all
abbrev pub class_read : ℕ → List ℕ → Record
class_read m ins = with_own Class (entry ins) (opened m)

abbrev pub standings_read : ℕ → List ℕ → List ℕ → Record
standings_read m ins either = with_own Either (entry either) (class_read m ins)

abbrev pub held_read : ℕ → List ℕ → List ℕ → List ℕ → Record
held_read m ins either times = with_own Held (entry times) (standings_read m ins either)

abbrev pub whole_record : ℕ → List ℕ → List ℕ → List ℕ → Profile → Record
whole_record m ins either times p = with_profile p (held_read m ins either times)

pub before_class : (m : ℕ) (none : List ℕ) → ((c : ℕ) → c < 2 ^ m → entry none c ≡ 0) → ReadBefore Class m none (opened m)
before_class m none zero = record { marks = refl; none = λ c. refl; nothing_held = sum-zero (2 ^ m); taken = λ c l. sym (eq-eqb (entry none c) 0 (zero c l)) }

-- a combination with 0 in the list has the standing w, and the others v, which the test tells from w
told_by_all : (test : Standing → Bool) (N : ℕ) (f : ℕ → ℕ) (v w : Standing) → test v ≡ true → test w ≡ false → (c : ℕ) → c < N
    → test (cond (ltb c N && ltb 0 (f c)) v w) ≡ ltb 0 (f c)
told_by_all test N f v w p q c l =
    same_or (f c) 0
    (λ e. rw (lt-ltb c N l, e) q)
    (λ n. rw (lt-ltb c N l, lt-ltb 0 (f c) (omega arith)) p)

none_some : (x : ℕ) → not (ltb 0 x) ≡ eqb x 0
none_some x = same_or x 0 (λ e. rw e) (λ n. rw (lt-ltb 0 x (omega arith), ne_eqb x 0 n))

not_either : (b : Bool) → is_either (cond b standing.In standing.Out) ≡ false
not_either true = refl
not_either false = refl

adds_none : (b : Bool) → eithers (cond b standing.In standing.Out) ≡ 0
adds_none true = refl
adds_none false = refl

module _ (m : ℕ) (ins : List ℕ) where
  before_either : ReadBefore Either m ins (class_read m ins)
  before_either = record {
    marks = refl;
    none = λ c. not_either (ltb c (2 ^ m) && ltb 0 (entry ins c));
    nothing_held = sum-zero (2 ^ m);
    taken = λ c l. ap not (told_by_all is_in (2 ^ m) (entry ins) standing.In standing.Out refl refl c l) ∙ none_some (entry ins c);
  }

  either_told : (either : List ℕ) (c : ℕ) → c < 2 ^ m → is_either ((standings_read m ins either).standing c) ≡ ltb 0 (entry either c)
  either_told either c l = told_by_all is_either (2 ^ m) (entry either) standing.Either ((class_read m ins).standing c) refl (not_either (ltb c (2 ^ m) && ltb 0 (entry ins c))) c l

  pub before_held : (either : List ℕ) → ReadBefore Held m either (standings_read m ins either)
  before_held either = record {
    marks = refl;
    none = λ c. refl;
    nothing_held = sum-zero (2 ^ m);
    taken = λ c l. ap not (either_told either c l) ∙ none_some (entry either c);
  }

  before_profile : (either times : List ℕ) → ProfileBefore m either (held_read m ins either times)
  before_profile either times = record { plain = record { marks = refl; profile = refl }; told = either_told either }

-- the either section, which 01's layout has not
pub record EitherGot (layout : Layout) (m : ℕ) (ins : List ℕ) (f g : Fields) (own : List ℕ) : Type 0 where
  pub long : 2 ^ m ≤ length own
  pub ones : (c : ℕ) → c < 2 ^ m → entry own c ≤ 1
  pub leads : Leads (rest_due (behind_class layout) (class_read m ins)) f (due (count Held (behind_held layout) (standings_read m ins own))) g

pub none_found : {m : ℕ} {ins : List ℕ} {f g : Fields} {own : List ℕ} → NoneRead m f g own → EitherGot First m ins f g own
none_found {m} {ins} {f} {g} {own} x =
    let same : class_read m ins ≡ standings_read m ins own = sym (own_start (entry own) {r = class_read m ins} x.none Either (before_either m ins).none) in
    record {
      long = x.long;
      ones = λ c l. omega (arith, x.none c l);
      leads = rw (x.stays, ← same) (at_start (rest_due (behind_class First) (class_read m ins)) f);
    }

pub either_missed : (layout : Layout) (m : ℕ) (ins : List ℕ) (f : Fields) (e : Refusal) → EitherMissed layout m ins f e → Stops (rest_due (behind_class layout) (class_read m ins)) f e
either_missed First m ins f e x = absurd x
either_missed Today m ins f e x = x.stops (more Held profile) (class_read m ins) (before_either m ins)

pub either_found : (layout : Layout) (m : ℕ) (ins : List ℕ) (f g : Fields) (own : List ℕ) → EitherFound layout m ins f g own → EitherGot layout m ins f g own
either_found First m ins f g own x = none_found x
either_found Today m ins f g own x = record { long = x.long; ones = x.most; leads = x.leads (more Held profile) (class_read m ins) (before_either m ins) }

-- the profile, which 01's layout has not
module _ (m : ℕ) (ins either times : List ℕ) where
  pub end_missed : (layout : Layout) (f : Fields) (e : Refusal) → EndMissed layout m either f e → Stops (rest_due (behind_held layout) (held_read m ins either times)) f e
  end_missed First f e x = absurd x
  end_missed Today f e x = x.stops (held_read m ins either times) (before_profile m ins either times)

  pub end_found : (layout : Layout) (f g : Fields) (p : Profile) → EndFound layout m either f g p
      → Leads (rest_due (behind_held layout) (held_read m ins either times)) f (end (whole_record m ins either times p)) g
  end_found First f g p x = rw (x.0, x.1) (at_start (end (held_read m ins either times)) f)
  end_found Today f g p x = x.leads (held_read m ins either times) (before_profile m ins either times)

module _ (m : ℕ) (ins either times : List ℕ) (p : Profile) where
  times_told : (c : ℕ) → c < 2 ^ m → entry times c ≡ (whole_record m ins either times p).times c
  times_told c l = ap (λ (b : Bool). only b (entry times c)) (sym (lt-ltb c (2 ^ m) l))

  pub times_addable : (layout : Layout) {t : List ℕ} → 2 ^ m ≤ length times → Bytes t → ReadingBy layout most_marks t (good (whole_record m ins either times p)) → Addable m times
  times_addable layout {t} long b r = record {
    long = long;
    sum = omega (arith, sum_in-all m (entry times), sum_ext (2 ^ m) (entry times) (whole_record m ins either times p).times times_told, (is-form layout t b r).storable.held_le_most);
  }

  -- the combinations that are neither in nor either are out
  module _ {rest : List ℕ} (third : Neither ins either rest) where
    pub outs_addable : m ≤ 5 → Addable m rest
    outs_addable few =
        let fits = combinations_fit m few in
        ones_addable m rest few (omega (arith, third.long))
        (λ c l. omega (arith, third.each c (omega arith), only-le (eqb (entry ins c) 0 && eqb (entry either c) 0) 1))

    module _ (few : m ≤ 5) (ones : (c : ℕ) → c < 2 ^ m → entry ins c ≤ 1) (either_ones : (c : ℕ) → c < 2 ^ m → entry either c ≤ 1) where
      outs_told : (c : ℕ) → c < 2 ^ m → entry rest c ≡ outs ((whole_record m ins either times p).standing c)
      outs_told c l =
          third.each c (omega (arith, combinations_fit m few))
          ∙ rw (lt-ltb c (2 ^ m) l)
          (mark (λ x. only (eqb x 0 && eqb (entry either c) 0) 1 ≡ outs (cond (ltb 0 (entry either c)) standing.Either (cond (ltb 0 x) standing.In standing.Out)))
          (entry ins c) (omega (arith, ones c l))
          (mark (λ y. only (eqb y 0) 1 ≡ outs (cond (ltb 0 y) standing.Either standing.Out)) (entry either c) (omega (arith, either_ones c l)) refl refl)
          (mark (λ y. 0 ≡ outs (cond (ltb 0 y) standing.Either standing.In)) (entry either c) (omega (arith, either_ones c l)) refl refl))

      eithers_told : (c : ℕ) → c < 2 ^ m → entry either c ≡ eithers ((whole_record m ins either times p).standing c)
      eithers_told c l =
          rw (lt-ltb c (2 ^ m) l)
          (mark (λ y. y ≡ eithers (cond (ltb 0 y) standing.Either (cond (ltb 0 (entry ins c)) standing.In standing.Out)))
          (entry either c) (omega (arith, either_ones c l)) (sym (adds_none (ltb 0 (entry ins c)))) refl)

      pub read_answered : {s : Sheet} → s ≡ sheet_from entries m p (entry rest) (entry either) (entry times)
          → read_as (Ok s) ≡ read_of entries (good (whole_record m ins either times p))
      read_answered e =
          ap (λ (y : Sheet). read_as (Ok y))
          (e ∙ sheet_same entries m p _ _ _ _ _ _ outs_told eithers_told times_told)
