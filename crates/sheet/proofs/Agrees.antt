-- Entries at 3^m and above are not read: two sheets that agree below tell the same record, and are fit for the same calls.
use Prim.Native.Nat.{ℕ, ◌+◌, ◌^◌, ◌<◌, ◌≤◌}
use mathlib.Core.Path.{◌≡◌, sym, ◌∙◌, ap, ap₂, subst, fun_ext}
use mathlib.Core.Bool.{true, cond}
use lib.Dec.{ltb}
use mathlib.Core.List.{List}
use native.Mathlib.Nat.{one-le-pow}
use native.Mathlib.Omega.{arith}
use Rattle.boxes.specs.Boxes.{sum_in, single, all_free}
use Rattle.boxes.proofs.Choices.{through-lt}
use Rattle.tables.specs.Tables.{entry, own, Sums}
use Rattle.profiles.specs.declared.Profile.{Profile}
use Rattle.classes.specs.declared.Standing.TheVariants.{Out, Either}
use Rattle.classes.specs.Sound.{CountsSound, ClassSound}
use Rattle.classes.specs.Standings.{tells, told_by}
use Rattle.sheet.specs.declared.Sheet.{Sheet}
use Rattle.sheet.specs.Told.{Value}
use Rattle.sheet.specs.Limits.{marks_ok}
use Rattle.sheet.specs.Record.{Record, in_class, Table, outside_counts, either_counts, held_seconds, kept}
use Rattle.sheet.specs.Sound.{TimesSound, ClassReady, Ready, record_of, size_of}
use Rattle.sheet.specs.Answers.{ClassSize}
use Rattle.sheet.specs.Entries.{Agree}

-- what own numbers tell
abbrev record_from : ℕ → Profile → (ℕ → ℕ) → (ℕ → ℕ) → (ℕ → ℕ) → Record
record_from m p f g h = record { marks = m; profile = p; standing = λ c. cond (ltb c (2 ^ m)) (told_by (f c) (g c)) Out; times = h }

-- two tables with the same entries of boxes
module _ (m : ℕ) (t u : List ℕ) (same : (b : ℕ) → b < 3 ^ m → entry t b ≡ entry u b) where
  own_same : own m t ≡ own m u
  own_same = fun_ext (λ c. same (single m c) (through-lt m c 0))

  sums_same : Sums m (entry t) → Sums m (entry u)
  sums_same sums b l = sym (same b l) ∙ sums b l ∙ ap (sum_in m b) own_same

-- sheets with the same entries of boxes over m marks
module _ (m : ℕ) (s u : Sheet) (same : (t : Table) (b : ℕ) → b < 3 ^ m → entry (kept t s) b ≡ entry (kept t u) b) where
  owns : (t : Table) → own m (kept t s) ≡ own m (kept t u)
  owns t = own_same m (kept t s) (kept t u) (same t)

  sums : (t : Table) → Sums m (entry (kept t s)) → Sums m (entry (kept t u))
  sums t = sums_same m (kept t s) (kept t u) (same t)

  counts_sound_same : CountsSound m s.outside s.either → CountsSound m u.outside u.either
  counts_sound_same w = record {
    outsides = sums outside_counts w.outsides;
    eithers = sums either_counts w.eithers;
    tells = λ c l. subst (λ (f : ℕ → ℕ). f c + own m u.either c ≤ 1) (owns outside_counts)
        (subst (λ (f : ℕ → ℕ). own m s.outside c + f c ≤ 1) (owns either_counts) (w.tells c l));
  }

  class_sound_same : {p : Profile} → ClassSound m p s.outside s.either → ClassSound m p u.outside u.either
  class_sound_same w = record {
    counts = counts_sound_same w.counts;
    profile = w.profile;
    obeys = λ c l b. sym (ap₂ (λ (f g : ℕ → ℕ). tells Either (f c) (g c)) (owns outside_counts) (owns either_counts)) ∙ w.obeys c l b;
  }

  times_sound_same : TimesSound m s.outside s.either s.held → TimesSound m u.outside u.either u.held
  times_sound_same w =
      let p : 1 ≤ 3 ^ m = one-le-pow m 3 (omega arith) in
      record {
        sums = sums held_seconds w.sums;
        most = omega (arith, same held_seconds (all_free m) (omega arith), w.most);
        apart = λ c l t. ap (λ (f : ℕ → ℕ). f c) (sym (owns held_seconds))
            ∙ w.apart c l (ap₂ (λ (f g : ℕ → ℕ). tells Either (f c) (g c)) (owns outside_counts) (owns either_counts) ∙ t);
      }

  told_same : (p : Profile) → record_from m p (own m s.outside) (own m s.either) (own m s.held) ≡ record_from m p (own m u.outside) (own m u.either) (own m u.held)
  told_same p =
      ap (λ (f : ℕ → ℕ). record_from m p f (own m s.either) (own m s.held)) (owns outside_counts)
      ∙ ap₂ (λ (f g : ℕ → ℕ). record_from m p (own m u.outside) f g) (owns either_counts) (owns held_seconds)

module _ {s u : Sheet} (a : Agree s u) where
  pub agree_back : Agree u s
  agree_back = record {
    marks = sym a.marks;
    profile = sym a.profile;
    tables = λ t b l. sym (a.tables t b (subst (λ (m : ℕ). b < 3 ^ m) (sym a.marks) l));
  }

  -- the same record
  pub record_same : record_of s ≡ record_of u
  record_same =
      told_same s.marks s u a.tables s.profile
      ∙ ap₂ (λ (m : ℕ) (p : Profile). record_from m p (own m u.outside) (own m u.either) (own m u.held)) a.marks a.profile

  -- fit for the same calls

  class_same : ClassSound s.marks s.profile s.outside s.either → ClassSound u.marks u.profile u.outside u.either
  class_same w =
      subst (λ (m : ℕ). ClassSound m u.profile u.outside u.either) a.marks
      (subst (λ (p : Profile). ClassSound s.marks p u.outside u.either) a.profile (class_sound_same s.marks s u a.tables w))

  pub class_ready_same : {most : ℕ} → ClassReady most s → ClassReady most u
  class_ready_same {most} r = record { marks = subst (λ (m : ℕ). marks_ok most m ≡ true) a.marks r.marks; class = class_same r.class }

  pub ready_same : {most : ℕ} → Ready most s → Ready most u
  ready_same {most} r = record {
    marks = subst (λ (m : ℕ). marks_ok most m ≡ true) a.marks r.marks;
    class = class_same r.class;
    times = subst (λ (m : ℕ). TimesSound m u.outside u.either u.held) a.marks
        (times_sound_same s.marks s u a.tables r.times);
  }

-- so the class size is the same
pub size_alike : {most : ℕ} {s u : Sheet} {v : Value} → Agree s u → ClassSize most s v → ClassSize most u v
size_alike a (ClassSize.spoiled n) = ClassSize.spoiled (λ r. n (class_ready_same (agree_back a) r))
size_alike {most} {s} {u} a (ClassSize.told r) =
    subst (λ (x : Record). ClassSize most u (record { number = 0; value = size_of x.marks (in_class x) })) (sym (record_same a)) (ClassSize.told (class_ready_same a r))
