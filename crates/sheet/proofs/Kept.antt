-- A sheet worked out afresh from a record is sound, and tells the record.
use Prim.Native.Nat.{ℕ, ◌+◌, ◌^◌, ◌<◌, ◌≤◌}
use mathlib.Core.Path.{◌≡◌, refl, sym, ◌∙◌, ap₂}
use mathlib.Core.Bool.{true}
use native.Mathlib.Nat.{one-le-pow}
use native.Mathlib.Omega.{arith}
use borrow.Author.Tests.{lt-ltb}
use Rattle.boxes.specs.Boxes.{all_free}
use Rattle.boxes.specs.Sums.{sum}
use Rattle.boxes.proofs.Boxes.{sum_in-all}
use Rattle.tables.specs.Tables.{entry, own, afresh}
use Rattle.tables.proofs.Entries.{afresh_own, afresh_sums, afresh-entry}
use Rattle.classes.specs.Standings.{is, is_either, outs, eithers, tells, told_by}
use Rattle.classes.specs.Sound.{CountsSound, ClassSound}
use Rattle.classes.specs.declared.Standing.{Standing}
use Rattle.classes.specs.declared.Standing.TheVariants.{In, Out, Either}
use Rattle.sheet.specs.Limits.{most_held}
use Rattle.profiles.specs.Profiles.{profile_ok}
use Rattle.profiles.specs.declared.Profile.{Profile}
use Rattle.sheet.specs.Record.{Record, Obeys, opened_under, quantity, outside_counts, either_counts, sheet_of}
use Rattle.sheet.specs.Sound.{TimesSound}

-- what a combination of a standing adds tells the standing

pub adds_one : (s : Standing) → outs s + eithers s ≤ 1
adds_one In = omega arith
adds_one Out = omega arith
adds_one Either = omega arith

pub told_back : (s : Standing) → told_by (outs s) (eithers s) ≡ s
told_back In = refl
told_back Out = refl
told_back Either = refl

pub tells_is : (a s : Standing) → tells a (outs s) (eithers s) ≡ is a s
tells_is In In = refl
tells_is In Out = refl
tells_is In Either = refl
tells_is Out In = refl
tells_is Out Out = refl
tells_is Out Either = refl
tells_is Either In = refl
tells_is Either Out = refl
tells_is Either Either = refl

pub tells_either : (s : Standing) → tells Either (outs s) (eithers s) ≡ is_either s
tells_either s = tells_is Either s

module _ (n m : ℕ) (fits : 3 ^ m ≤ n) where
  module _ (standing : ℕ → Standing) where
    abbrev outside : ℕ → ℕ
    outside c = outs (standing c)

    abbrev either : ℕ → ℕ
    either c = eithers (standing c)

    pub counts_sound : CountsSound m (afresh n m outside) (afresh n m either)
    counts_sound = record {
      outsides = afresh_sums n m outside fits;
      eithers = afresh_sums n m either fits;
      tells = λ c l. omega (arith, afresh_own n m outside fits c l, afresh_own n m either fits c l, adds_one (standing c));
    }

    -- the standing that the counts tell is the record's
    pub standing_told : (c : ℕ) → c < 2 ^ m → told_by (own m (afresh n m outside) c) (own m (afresh n m either) c) ≡ standing c
    standing_told c l = ap₂ told_by (afresh_own n m outside fits c l) (afresh_own n m either fits c l) ∙ told_back (standing c)

  pub times_total : (times : ℕ → ℕ) → entry (afresh n m times) (all_free m) ≡ sum (2 ^ m) times
  times_total times =
      let p : 1 ≤ 3 ^ m = one-le-pow m 3 (omega arith) in
      afresh-entry n m times (all_free m) (omega arith) ∙ sum_in-all m times

  pub times_sound : (standing : ℕ → Standing) (times : ℕ → ℕ) → sum (2 ^ m) times ≤ most_held → ((c : ℕ) → is_either (standing c) ≡ true → times c ≡ 0)
      → TimesSound m (afresh n m (outside standing)) (afresh n m (either standing)) (afresh n m times)
  times_sound standing times l apart = record {
    sums = afresh_sums n m times fits;
    most = omega (arith, times_total times);
    apart = λ c lc e. afresh_own n m times fits c lc
        ∙ apart c (sym (tells_either (standing c)) ∙ sym (ap₂ (tells Either) (afresh_own n m (outside standing) fits c lc) (afresh_own n m (either standing) fits c lc)) ∙ e);
  }

-- the class table of a record that obeys its profile
pub class_sound : (n : ℕ) (r : Record) → 3 ^ r.marks ≤ n → profile_ok r.marks r.profile ≡ true → Obeys r
    → ClassSound r.marks r.profile (sheet_of n r).outside (sheet_of n r).either
class_sound n r fits ok obeys = record {
  counts = counts_sound n r.marks fits r.standing;
  profile = ok;
  obeys = λ c l b. ap₂ (tells Either) (afresh_own n r.marks (quantity outside_counts r) fits c l) (afresh_own n r.marks (quantity either_counts r) fits c l)
      ∙ tells_either (r.standing c) ∙ obeys c l b;
}

-- an opened sheet's record obeys its profile
pub opened_obeys : (m : ℕ) (p : Profile) → Obeys (opened_under m p)
opened_obeys m p c l b = rw (b, lt-ltb c (2 ^ m) l)
