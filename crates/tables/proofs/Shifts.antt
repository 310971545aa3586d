-- What a move at c does to a table is what the same shift of c's own does to every sum, so that sums stay sums; and a table worked out afresh,
-- moved, is the one worked out afresh from what c has then.
use Prim.Native.Nat.{ℕ, ◌^◌, ◌<◌, ◌≤◌}
use mathlib.Core.Path.{◌≡◌, refl, sym, ◌∙◌, ap}
use mathlib.Core.Bool.{Bool, true, false, cond}
use mathlib.Core.List.{List}
use native.Mathlib.Omega.{arith}
use lib.ListN.{length}
use borrow.Author.Tests.{ne_eqb}
use Rattle.ground.proofs.Cases.{if}
use Rattle.boxes.specs.Boxes.{contains, sum_in, single}
use Rattle.boxes.specs.Sums.{only}
use Rattle.boxes.proofs.Boxes.{sum_in_change, contains_nothing}
use Rattle.boxes.proofs.Choices.{through-lt, through-contains, single-contains}
use Rattle.tables.specs.declared.Shift.{Shift}
use Rattle.tables.specs.declared.Shift.TheVariants.{Stays, Up, Down}
use Rattle.tables.specs.Tables.{entry, own, afresh, shifted, moved, Shifts, Shifted, Sums}
use Rattle.tables.specs.Parts.{Bears, AllBear, ShiftsAt}
use Rattle.tables.proofs.Entries.{tab-length, tab-entry, tab_of, afresh-entry}

-- one number

pub shifts_is : (s : Shift) (x y : ℕ) → Shifts s x y → y ≡ shifted s x
shifts_is Stays x y e = e
shifts_is (Up d) x y e = e
shifts_is (Down d) x y e = omega arith

pub bears_shifts : (s : Shift) (x : ℕ) → Bears s x → Shifts s x (shifted s x)
bears_shifts Stays x h = refl
bears_shifts (Up d) x h = refl
bears_shifts (Down d) x h = omega arith

-- nothing moves
pub stays_at : (m c : ℕ) (f : ℕ → ℕ) → ShiftsAt m c Stays f f
stays_at m c f = record { here = refl; others = λ x l n. refl }

in-box : (m b c d : ℕ) → contains m b c ≡ true → only (contains m b c) d ≡ d
in-box m b c d e = ap (λ (t : Bool). only t d) e

out_of_box : (m b c d : ℕ) → contains m b c ≡ false → only (contains m b c) d ≡ 0
out_of_box m b c d e = ap (λ (t : Bool). only t d) e

-- every sum is shifted alike
module _ (m c : ℕ) (low : c < 2 ^ m) (b : ℕ) where
  pub sum_shifts : (s : Shift) (f g : ℕ → ℕ) → ShiftsAt m c s f g → contains m b c ≡ true → Shifts s (sum_in m b f) (sum_in m b g)
  sum_shifts Stays f g v e = omega (arith, sum_in_change m b f g c 0 low v.others (omega (arith, v.here)), in-box m b c 0 e)
  sum_shifts (Up d) f g v e = omega (arith, sum_in_change m b f g c d low v.others v.here, in-box m b c d e)
  sum_shifts (Down d) f g v e = omega (arith, sum_in_change m b g f c d low (λ x l n. sym (v.others x l n)) v.here, in-box m b c d e)

  pub sum_rests : (s : Shift) (f g : ℕ → ℕ) → ShiftsAt m c s f g → contains m b c ≡ false → sum_in m b g ≡ sum_in m b f
  sum_rests Stays f g v e = omega (arith, sum_in_change m b f g c 0 low v.others (omega (arith, v.here)), out_of_box m b c 0 e)
  sum_rests (Up d) f g v e = omega (arith, sum_in_change m b f g c d low v.others v.here, out_of_box m b c d e)
  sum_rests (Down d) f g v e = omega (arith, sum_in_change m b g f c d low (λ x l n. sym (v.others x l n)) v.here, out_of_box m b c d e)

-- a moved table

module _ (m c : ℕ) (s : Shift) (t : List ℕ) where
  pub moved_length : length (moved m c s t) ≡ length t
  moved_length = tab-length (length t) _

  pub moved_in : (b : ℕ) → b < length t → contains m b c ≡ true → entry (moved m c s t) b ≡ shifted s (entry t b)
  moved_in b l e = tab-entry (length t) _ b l ∙ ap (λ (x : Bool). cond x (shifted s (entry t b)) (entry t b)) e

  pub moved_out : (b : ℕ) → b < length t → contains m b c ≡ false → entry (moved m c s t) b ≡ entry t b
  moved_out b l e = tab-entry (length t) _ b l ∙ ap (λ (x : Bool). cond x (shifted s (entry t b)) (entry t b)) e

  -- entries of no box are as they were
  pub moved_above : (b : ℕ) → 3 ^ m ≤ b → b < length t → entry (moved m c s t) b ≡ entry t b
  moved_above b l lb = moved_out b lb (contains_nothing m b c l)

  pub moved_shifted : AllBear m c s t → Shifted m c s t (moved m c s t)
  moved_shifted fit = record {
    long = moved_length;
    touched = λ b l e. rw (moved_in b l e) (bears_shifts s (entry t b) (fit b e));
    others = moved_out;
  }

-- tables with the same entries of boxes stay so
pub moved_same : (m c : ℕ) (s : Shift) (t u : List ℕ) → 3 ^ m ≤ length t → 3 ^ m ≤ length u → ((b : ℕ) → b < 3 ^ m → entry t b ≡ entry u b)
    → (b : ℕ) → b < 3 ^ m → entry (moved m c s t) b ≡ entry (moved m c s u) b
moved_same m c s t u lt lu h b l =
    tab-entry (length t) _ b (omega arith) ∙ ap (λ (x : ℕ). cond (contains m b c) (shifted s x) x) (h b l) ∙ sym (tab-entry (length u) _ b (omega arith))

-- a move that shifts nothing
pub moved_stays : (m c : ℕ) (t : List ℕ) → t ≡ moved m c Stays t
moved_stays m c t =
    tab_of (length t) _ t refl (λ b l. if (contains m b c)
    (λ e. ap (λ (x : Bool). cond x (entry t b) (entry t b)) (sym e))
    (λ e. ap (λ (x : Bool). cond x (entry t b) (entry t b)) (sym e)))

module _ {m c : ℕ} {s : Shift} {t u : List ℕ} (v : Shifted m c s t u) (fits : 3 ^ m ≤ length t) (low : c < 2 ^ m) where
  -- the combinations' own
  pub own_shifts : ShiftsAt m c s (own m t) (own m u)
  own_shifts = record {
    here = v.touched (single m c) (omega (arith, through-lt m c 0)) (through-contains m c 0 low);
    others = λ x l n. v.others (single m x) (omega (arith, through-lt m x 0)) (single-contains m x c l ∙ ne_eqb x c n);
  }

  -- sums stay sums
  pub shifted_sums : Sums m (entry t) → Sums m (entry u)
  shifted_sums h b l =
      if (contains m b c)
      (λ e. shifts_is s _ _ (v.touched b (omega arith) e) ∙ ap (shifted s) (h b l) ∙ sym (shifts_is s _ _ (sum_shifts m c low b s (own m t) (own m u) own_shifts e)))
      (λ e. v.others b (omega arith) e ∙ h b l ∙ sym (sum_rests m c low b s (own m t) (own m u) own_shifts e))

-- WORKED OUT AFRESH, THEN MOVED, is moved, then worked out afresh: whatever the quantity
pub moved-afresh : (n m c : ℕ) (s : Shift) (f g : ℕ → ℕ) → c < 2 ^ m → ShiftsAt m c s f g → moved m c s (afresh n m f) ≡ afresh n m g
moved-afresh n m c s f g low v =
    let t = afresh n m f in
    let long : length t ≡ n = tab-length n (λ b. sum_in m b f) in
    tab_of n _ (moved m c s t) (moved_length m c s t ∙ long)
    (λ b l. if (contains m b c)
    (λ e. moved_in m c s t b (omega arith) e ∙ ap (shifted s) (afresh-entry n m f b l) ∙ sym (shifts_is s _ _ (sum_shifts m c low b s f g v e)))
    (λ e. moved_out m c s t b (omega arith) e ∙ afresh-entry n m f b l ∙ sym (sum_rests m c low b s f g v e)))
