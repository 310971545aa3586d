-- The lists that an opened sheet is worked out from: the same number for each combination.
use Prim.Native.Nat.{ℕ, ◌^◌, ◌<◌, ◌≤◌}
use mathlib.Core.Bool.{Bool, true, false, cond, ◌&&◌}
use mathlib.Core.Path.{◌≡◌, refl, ◌∙◌, ap, ap₂}
use native.Mathlib.Nat.{pow-le-pow_right}
use native.Mathlib.Omega.{arith}
use mathlib.Core.List.{List}
use borrow.Author.Tests.{lt-ltb}
use lib.ListN.{length, replicate, get_or-replicate, length-replicate}
use Rattle.boxes.proofs.Boxes.{sum_in-all}
use Rattle.boxes.proofs.Sums.{sum-le, sum_ones}
use Rattle.tables.specs.Tables.{entry, afresh}
use Rattle.tables.proofs.Entries.{afresh_ext}
use Rattle.profiles.specs.Profiles.{breaks}
use Rattle.profiles.specs.declared.Profile.{Profile}
use Rattle.classes.specs.declared.Standing.TheVariants.{Out, Either}
use Rattle.sheet.specs.declared.Sheet.{Sheet}
use Rattle.sheet.specs.Record.{opened_under, sheet_from, sheet_with}
use Rattle.sheet.specs.Parts.{Addable}

pub combinations_fit : (m : ℕ) → m ≤ 5 → 2 ^ m ≤ 32
combinations_fit m l = pow-le-pow_right {n = 2} (omega arith) {i = m} {j = 5} l

pub same-entry : (m x c : ℕ) → m ≤ 5 → c < 2 ^ m → entry (replicate 32 x) c ≡ x
same-entry m x c l lc = get_or-replicate 32 c x 0 (omega (arith, combinations_fit m l))

-- numbers of at most 1 can be added up
pub ones_addable : (m : ℕ) (own : List ℕ) → m ≤ 5 → 2 ^ m ≤ length own → ((c : ℕ) → c < 2 ^ m → entry own c ≤ 1) → Addable m own
ones_addable m own few long ones = record {
  long = long;
  sum = omega (arith, sum_in-all m (entry own), combinations_fit m few, sum-le (2 ^ m) (entry own) (λ c. 1) ones, sum_ones (2 ^ m));
}

pub same_addable : (m x : ℕ) → m ≤ 5 → x ≤ 1 → Addable m (replicate 32 x)
same_addable m x l lx =
    ones_addable m (replicate 32 x) l (omega (arith, combinations_fit m l, length-replicate 32 x)) (λ c lc. omega (arith, same-entry m x c l lc))

-- what a combination adds at first
pub opened_low : (m c : ℕ) (p : Profile) → c < 2 ^ m → (opened_under m p).standing c ≡ cond (breaks m p c) Either Out
opened_low m c p l = rw (lt-ltb c (2 ^ m) l) (go (breaks m p c))
  where
    go : (b : Bool) → cond (b && true) Either Out ≡ cond b Either Out
    go true = refl
    go false = refl

-- a sheet is the same worked out from what is the same of each combination
pub sheet_same : (n m : ℕ) (p : Profile) (f f' g g' h h' : ℕ → ℕ) → ((c : ℕ) → c < 2 ^ m → f c ≡ f' c) → ((c : ℕ) → c < 2 ^ m → g c ≡ g' c) → ((c : ℕ) → c < 2 ^ m → h c ≡ h' c)
    → ◌≡◌ {A = Sheet} (sheet_from n m p f g h) (sheet_from n m p f' g' h')
sheet_same n m p f f' g g' h h' hf hg hh =
    ap₂ (λ (x y : List ℕ). sheet_with m p x y (afresh n m h)) (afresh_ext n m f f' hf) (afresh_ext n m g g' hg)
    ∙ ap (sheet_with m p (afresh n m f') (afresh n m g')) (afresh_ext n m h h' hh)
