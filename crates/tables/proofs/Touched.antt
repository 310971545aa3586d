-- The touched entries are those of the boxes through c, one for each set of free marks.
use Prim.Native.Nat.{ℕ, ◌+◌, ◌*◌, ◌^◌, ◌<◌}
use mathlib.Core.Bool.{Bool, true, false, not, ◌||◌}
use mathlib.Core.Path.{◌≡◌, sym, ◌∙◌, ap, ap₂}
use mathlib.Core.List.{List}
use lib.Count.{ones}
use Rattle.boxes.specs.Boxes.{contains, through}
use Rattle.ground.proofs.Every.{every_yes, every_at, every_no}
use Rattle.ground.proofs.Cases.{if, clash}
use Rattle.boxes.proofs.Boxes.{contains_box}
use Rattle.boxes.proofs.Choices.{through-lt, through-contains, through_free, free_marks, free_marks_lt, free_count-through}
use Rattle.tables.specs.declared.Shift.{Shift}
use Rattle.tables.specs.Tables.{entry, fits_shifted, touched}
use Rattle.tables.specs.Parts.{fits_moved}

each : (a x : Bool) → a ≡ true → (not a || x) ≡ x
each a x e = rw e

other : (a x : Bool) → a ≡ false → (not a || x) ≡ true
other a x e = rw e

module _ (m c : ℕ) (p : ℕ → Bool) where
  pub touched_at : touched m c p ≡ true → (b : ℕ) → contains m b c ≡ true → p b ≡ true
  touched_at e b h = rw (sym (each (contains m b c) (p b) h)) (every_at (3 ^ m) (λ b. not (contains m b c) || p b) b e (contains_box m b c h))

  pub touched_yes : ((b : ℕ) → contains m b c ≡ true → p b ≡ true) → touched m c p ≡ true
  touched_yes h = every_yes (3 ^ m) _ (λ b l. if (contains m b c) (λ e. each (contains m b c) (p b) e ∙ h b e) (λ e. other (contains m b c) (p b) e))

  -- told by the free marks
  pub touched_all : ((k : ℕ) → k < 2 ^ m → p (through m c k) ≡ true) → touched m c p ≡ true
  touched_all h = touched_yes (λ b e. ap p (sym (through_free m b c e)) ∙ h (free_marks m b) (free_marks_lt m b))

  pub touched_no : (k : ℕ) → c < 2 ^ m → p (through m c k) ≡ false → touched m c p ≡ false
  touched_no k l f =
      let b = through m c k in
      every_no (3 ^ m) (λ b. not (contains m b c) || p b) b (through-lt m c k) (each (contains m b c) (p b) (through-contains m c k l) ∙ f)

-- the same of each touched entry, the same answer
pub touched_ext : (m c : ℕ) (p q : ℕ → Bool) → ((b : ℕ) → contains m b c ≡ true → p b ≡ q b) → touched m c p ≡ touched m c q
touched_ext m c p q h =
    if (touched m c q)
    (λ e. touched_yes m c p (λ b w. h b w ∙ touched_at m c q e b w) ∙ sym e)
    (λ e. if (touched m c p) (λ y. clash (touched_yes m c q (λ b w. sym (h b w) ∙ touched_at m c p y b w)) e) (λ n. n ∙ sym e))

-- the box of turn k has as many combinations as k has sets of marks
pub turn_judged : (m c k : ℕ) (s : Shift) (t : List ℕ) (most each b top : ℕ) (r : Bool) → k < 2 ^ m → b ≡ through m c k → top ≡ most + each * 2 ^ ones k
    → r ≡ fits_shifted s top (entry t b) → fits_moved m s t most each (through m c k) ≡ r
turn_judged m c k s t most each b top r l e h j =
    ap₂ (λ (x f : ℕ). fits_shifted s (most + each * 2 ^ f) (entry t x)) (sym e) (free_count-through m c k l) ∙ ap (λ (x : ℕ). fits_shifted s x (entry t b)) (sym h) ∙ sym j
