-- Both ways: a sound sheet that is written and read, and bytes that are read and written; what is read is sound.
use Prim.Native.Nat.{ℕ, suc, ◌+◌, ◌*◌, ◌^◌, ◌≤◌, ◌<◌}
use mathlib.Core.Path.{◌≡◌, refl, sym, ap, ap₂, ◌∙◌, subst}
use mathlib.Core.Bool.{Bool, true, cond}
use mathlib.Core.List.{List, ◌∷◌, ◌++◌}
use native.Mathlib.Nat.{one-le-pow, pow-le-pow_right}
use native.Mathlib.Omega.{arith}
use lib.ListN.{length, take, drop, length-append}
use lib.Seq.{take_at}
use lib.Dec.{eqb}
use borrow.Author.Tests.{eqb-true, le-leb, lt-ltb, le-ltb}
use Rattle.boxes.specs.Boxes.{all_free}
use Rattle.boxes.proofs.Boxes.{sum_in-all}
use Rattle.boxes.proofs.Sums.{sum-zero}
use Rattle.ground.proofs.Cases.{clash, below_or, mark, and_left, and_right}
use Rattle.tables.specs.Tables.{own}
use Rattle.tables.proofs.Entries.{afresh_own}
use Rattle.profiles.specs.declared.Profile.{Profile}
use Rattle.classes.specs.Standings.{is_either, outs, eithers, tells, told_by}
use Rattle.classes.specs.declared.Standing.TheVariants as standing
use Rattle.sheet.specs.Limits.{marks_ok}
use Rattle.sheet.specs.Record.{outside_counts, either_counts, Record, Obeys, sheet_of, opened}
use Rattle.sheet.specs.Sound.{Ready, size_of, own_in, record_of}
use Rattle.sheet.specs.declared.Sheet.{Sheet}
use Rattle.sheet.specs.Told.{Value}
use Rattle.sheet.proofs.Limits.{marks_most}
use Rattle.sheet.proofs.Opening.{sheet_same}
use Rattle.sheet.proofs.Kept.{class_sound, standing_told, times_sound}
use Rattle.stored.specs.Told.{Read}
use Rattle.stored.specs.Fields.{Bytes, marks, due, Outcome, good, refused, Run}
use Rattle.stored.specs.Sections.{Rest, nothing, profile, more, sections, bytes_behind, stands_in, number_behind}
use Rattle.stored.specs.Form.{bytes, entry_of, entries_of, section, profile_bytes, rest_of, form_by, form}
use Rattle.stored.specs.declared.Layout.{Layout}
use Rattle.stored.specs.declared.Layout.TheVariants.{Today}
use Rattle.stored.specs.declared.Section.{Section}
use Rattle.stored.specs.declared.Section.TheVariants.{Class, Either, Held}
use Rattle.stored.specs.Answers.{read_of, ReadBy, ReadsBy, Reads, Writes, spoiled, short, written}
use Rattle.stored.proofs.UpTo.{up_to_low}
use Rattle.stored.proofs.Runs.{one}
use Rattle.stored.proofs.Refusals.{never_done}
use Rattle.stored.proofs.Numbers.{bytes-length}
use Rattle.stored.proofs.Listed.{listed-length}
use Rattle.stored.proofs.Sections.{stands_same}
use Rattle.stored.proofs.Groups.{none_obeys}
use Rattle.stored.proofs.IsForm.{Storable, section-same, today_tells, is-form}
use Rattle.stored.proofs.Back.{cut, reads_back}

-- two records of the same marks and profile with the same standings and times below 2^m
pub record RecordsAgree (r q : Record) : Type 0 where
  pub marks : r.marks ≡ q.marks
  pub profile : r.profile ≡ q.profile
  pub standing : (c : ℕ) → c < 2 ^ r.marks → r.standing c ≡ q.standing c
  pub times : (c : ℕ) → c < 2 ^ r.marks → r.times c ≡ q.times c

-- the form depends on nothing else, and so does the sheet

rest_same : {r q : Record} → RecordsAgree r q → (rest : Rest) → rest_of rest r ≡ rest_of rest q
rest_same a nothing = refl
rest_same a profile = ap profile_bytes a.profile
rest_same {r} {q} a (more s rest) =
    let same : (c : ℕ) → c < 2 ^ r.marks → (stands_in s r c ≡ stands_in s q c) × (number_behind s r c ≡ number_behind s q c) =
    λ c l. stands_same s r q c (a.standing c l) (a.times c l) in
    ap₂ (λ (x y : List ℕ). x ++ y) (section-same s r q a.marks (λ c l. (same c l).0) (λ c l. (same c l).1)) (rest_same a rest)

pub form_by_same : (layout : Layout) {r q : Record} → RecordsAgree r q → form_by layout r ≡ form_by layout q
unfolding form_by
form_by_same layout a = ap₂ (λ (m : ℕ) (l : List ℕ). m ∷ l) a.marks (rest_same a (sections layout))

pub form-same : {r q : Record} → RecordsAgree r q → form r ≡ form q
form-same a = form_by_same Today a

pub sheet_agrees : (n : ℕ) {r q : Record} → RecordsAgree r q → sheet_of n r ≡ sheet_of n q
sheet_agrees n {r} {q} a =
    sheet_same n r.marks r.profile _ _ _ _ r.times q.times (λ c l. ap outs (a.standing c l)) (λ c l. ap eithers (a.standing c l)) a.times
    ∙ ap₂ (λ (x : ℕ) (p : Profile). sheet_of n (record { marks = x; profile = p; standing = q.standing; times = q.times })) a.marks a.profile

cut_agrees : (r : Record) → RecordsAgree (cut r) r
cut_agrees r =
    record { marks = refl; profile = refl; standing = λ c l. up_to_low standing.Out r.standing (2 ^ r.marks) c l; times = λ c l. up_to_low 0 r.times (2 ^ r.marks) c l }

-- how long a form is
section-length : (s : Section) (r : Record) → length (section s r) ≡ 2 + size_of r.marks (stands_in s r) * suc (bytes_behind s)
section-length s r =
    let n = size_of r.marks (stands_in s r) in
    omega (
      arith,
      length-append (bytes 2 n) (entries_of s r),
      bytes-length 2 n,
      listed-length (stands_in s r) (entry_of s r) (suc (bytes_behind s)) (2 ^ r.marks) (λ c. ap suc (bytes-length (bytes_behind s) (number_behind s r c))),
    )

pub form-length : (r : Record) → length (form r) ≡ 7 + size_of r.marks (stands_in Class r) + size_of r.marks (stands_in Either r) + size_of r.marks (stands_in Held r) * 5 + length (profile_bytes r.profile)
unfolding form_by
form-length r =
    let p = profile_bytes r.profile in
    omega (
      arith,
      length-append (section Class r) (section Either r ++ (section Held r ++ p)),
      length-append (section Either r) (section Held r ++ p),
      length-append (section Held r) p,
      section-length Class r,
      section-length Either r,
      section-length Held r,
    )

-- own numbers that tell a standing tell an either one only as it is
either_told : (o e : ℕ) → o + e ≤ 1 → is_either (told_by o e) ≡ true → tells standing.Either o e ≡ true
either_told o e l =
    mark (λ (x : ℕ). x + e ≤ 1 → is_either (told_by x e) ≡ true → tells standing.Either x e ≡ true) o (omega arith)
    (λ k. mark (λ (y : ℕ). is_either (told_by 0 y) ≡ true → tells standing.Either 0 y ≡ true) e (omega arith) (λ q. q) (λ q. refl))
    (λ k q. clash q refl) l

told_either : (o e : ℕ) → tells standing.Either o e ≡ true → is_either (told_by o e) ≡ true
told_either o e q =
    let x : o ≡ 0 = eqb-true o 0 (and_left _ _ q) in
    let y : e ≡ 1 = eqb-true e 1 (and_right (eqb o 0) _ q) in
    rw (x, y)

-- tables long enough for every m
module _ (most n : ℕ) (long : 3 ^ most ≤ n) where
  boxes_fit : (m : ℕ) → marks_ok most m ≡ true → 3 ^ m ≤ n
  boxes_fit m e = omega (arith, pow-le-pow_right {n = 3} (omega arith) {i = m} {j = most} (marks_most most m e))

  -- a sheet worked out from a record tells it
  pub told_agrees : (r : Record) → marks_ok most r.marks ≡ true → RecordsAgree (record_of (sheet_of n r)) r
  told_agrees r e =
      let m = r.marks in
      let fits = boxes_fit m e in
      record {
        marks = refl;
        profile = refl;
        standing = λ c l. ap (λ (b : Bool). cond b (told_by (own_in outside_counts (sheet_of n r) c) (own_in either_counts (sheet_of n r) c)) standing.Out) (lt-ltb c (2 ^ m) l) ∙ standing_told n m fits r.standing c l;
        times = afresh_own n m r.times fits;
      }

  sound : (r : Record) → Storable most r → Ready most (sheet_of n r)
  sound r s =
      let m = r.marks in
      let fits = boxes_fit m s.marks in
      record { marks = s.marks; class = class_sound n r fits s.profile s.obeys; times = times_sound n m fits r.standing r.times s.held_le_most s.apart }

  -- what is read is sound, whichever way of reading, if it says what can be stored; and so is what is given with a refusal
  pub read_by_sound : {R : Outcome → Type 0} {a : Read} → 1 ≤ most → ((r : Record) → R (good r) → Storable most r) → ReadBy R n a → Ready most a.sheet
  unfolding marks_ok
  read_by_sound {R} h storable x = subst (λ (y : Read). Ready most y.sheet) (sym x.is) (by x.outcome x.run)
    where
      by : (o : Outcome) → R o → Ready most (read_of n o).sheet
      by (good r) y = sound r (storable r y)
      by (refused k p) y = sound (opened 1) (record { marks = rw (le-leb 1 most h); profile = refl; obeys = none_obeys (opened 1) refl; held_le_most = omega (arith, sum-zero (2 ^ 1)); apart = λ c e. refl })

  pub read_sound : (layout : Layout) → 1 ≤ most → (t : List ℕ) {a : Read} → Bytes t → ReadsBy layout most n t a → Ready most a.sheet
  read_sound layout h t b x = read_by_sound h (λ r y. (is-form layout t b y).storable) x

  -- what is read as a record, or refused
  pub read_good : {rest : Rest} {t : List ℕ} {a : Read} → ReadBy (Run most (due (marks rest)) 0 t) n a → a.number ≡ 0
      → (r : Record) × Run most (due (marks rest)) 0 t (good r) × (a ≡ read_of n (good r))
  read_good {rest} {t} {a} x e = by x.outcome x.run x.is
    where
      by : (o : Outcome) → Run most (due (marks rest)) 0 t o → a ≡ read_of n o → (r : Record) × Run most (due (marks rest)) 0 t (good r) × (a ≡ read_of n (good r))
      by (good r) y q = (r, y, q)
      by (refused k p) y q = absurd (never_done y (sym (ap (λ (z : Read). z.number) q) ∙ e))

  -- what a sound sheet tells has a form
  told_apart : (s : Sheet) → Ready most s → (c : ℕ) → is_either ((record_of s).standing c) ≡ true → own s.marks s.held c ≡ 0
  told_apart s f c e =
      let told : Bool → Bool = λ b. is_either (cond b (told_by (own_in outside_counts s c) (own_in either_counts s c)) standing.Out) in
      below_or c (2 ^ s.marks)
      (λ l. f.times.apart c l (either_told _ _ (f.class.counts.tells c l) (sym (ap told (lt-ltb c (2 ^ s.marks) l)) ∙ e)))
      (λ l. clash e (ap told (le-ltb c (2 ^ s.marks) l)))

  told_obeys : (s : Sheet) → Ready most s → Obeys (record_of s)
  told_obeys s f c l b = rw (lt-ltb c (2 ^ s.marks) l) (told_either (own_in outside_counts s c) (own_in either_counts s c) (f.class.obeys c l b))

  fit_storable : (s : Sheet) → Ready most s → Storable most (record_of s)
  fit_storable s f =
      let m = s.marks in
      let p : 1 ≤ 3 ^ m = one-le-pow m 3 (omega arith) in
      record {
        marks = f.marks;
        profile = f.class.profile;
        obeys = told_obeys s f;
        held_le_most = omega (arith, f.times.sums (all_free m) (omega arith), sum_in-all m (own m s.held), f.times.most);
        apart = told_apart s f;
      }

  -- reading what was written from a sound sheet gives its marks, class and times, with 0 in the entries at 3^m and above
  pub form_read : most ≤ 15 → (s : Sheet) → Ready most s → {a : Read} → Reads most n (form (record_of s)) a → a ≡ read_of n (good (record_of s))
  form_read few s f x =
      let r = record_of s in
      x.is ∙ ap (read_of n) (one x.run (reads_back Today r few (fit_storable s f) (today_tells r)))
      ∙ ap (λ (y : Sheet). record { number = 0; place = 0; sheet = y }) (sheet_agrees n (cut_agrees r))

  -- hence the very same sheet, where its tables are those worked out afresh from a record
  pub form_same_sheet : most ≤ 15 → (r : Record) → Storable most r → {a : Read} → Reads most n (form (record_of (sheet_of n r))) a → a ≡ read_of n (good r)
  form_same_sheet few r s x =
      form_read few (sheet_of n r) (sound r s) x ∙ ap (λ (y : Sheet). record { number = 0; place = 0; sheet = y }) (sheet_agrees n (told_agrees r s.marks))

  -- writing what was read gives the same bytes
  pub read_form : (t : List ℕ) {a : Read} → Bytes t → Reads most n t a → a.number ≡ 0 → form (record_of a.sheet) ≡ t
  read_form t {a} b x e =
      let g = read_good x e in
      let r = g.0 in
      let w = is-form Today t b g.1 in
      ap (λ (y : Read). form (record_of y.sheet)) g.2 ∙ form-same (told_agrees r w.storable.marks) ∙ sym w.bytes

-- done: the sheet is sound, and its form stands up to the value
pub writes_done : {most : ℕ} {s : Sheet} {out later : List ℕ} {v : Value} → Writes most s out v later → v.number ≡ 0 → Ready most s × (take v.value later ≡ form (record_of s))
writes_done (spoiled h) e = absurd (omega arith)
writes_done (short f l) e = absurd (omega arith)
writes_done {s = s} {out = out} (written f l) e = (f, take_at (form (record_of s)) (drop (length (form (record_of s))) out) (length (form (record_of s))) refl)

module _ (most n : ℕ) (long : 3 ^ most ≤ n) where
  -- a sheet that is written and read
  pub written_then_read : most ≤ 15 → {s : Sheet} {out later : List ℕ} {v : Value} {a : Read} → Writes most s out v later → v.number ≡ 0
      → Reads most n (take v.value later) a → a ≡ read_of n (good (record_of s))
  written_then_read few {s = s} {a = a} w e x =
      let d = writes_done w e in
      form_read most n long few s d.0 (subst (λ (t : List ℕ). Reads most n t a) d.1 x)

  -- it stays the same sheet, where its tables are those worked out afresh from a record
  pub travels : most ≤ 15 → (r : Record) {out later : List ℕ} {v : Value} {a : Read} → Writes most (sheet_of n r) out v later → v.number ≡ 0
      → Reads most n (take v.value later) a → a ≡ read_of n (good r)
  travels few r w e x =
      written_then_read few w e x
      ∙ ap (λ (y : Sheet). record { number = 0; place = 0; sheet = y }) (sheet_agrees n (told_agrees most n long r (writes_done w e).0.marks))

  -- bytes that are read and written
  pub read_then_written : {t out later : List ℕ} {v : Value} {a : Read} → Bytes t → Reads most n t a → a.number ≡ 0 → Writes most a.sheet out v later → v.number ≡ 0
      → take v.value later ≡ t
  read_then_written {t} b x e w d = (writes_done w d).1 ∙ read_form most n long t b x e
