-- Each list of the table is computed by the model of the search; each text is followed byte by byte: its digits so far, its colon, what stands behind.
use Prim.Native.Nat.{ℕ, zero, suc, ◌-◌, ◌+◌, ◌*◌, ◌≤◌, ◌<◌}
use lib.ListN.{get_or}
use mathlib.Core.Path.{◌≡◌, refl}
use mathlib.Core.Bool.{Bool, true, ◌&&◌}
use mathlib.Core.List.{List, [], ◌∷◌}
use native.Mathlib.Omega.{arith}
use Rattle.ground.specs.Texts.{ascii}
use Rattle.ground.proofs.Cases.{and_left, and_right}
use Rattle.boxes.specs.Boxes.{agrees, contains, through}
use Rattle.lists.specs.Lists.{among, first_from}
use Rattle.lists.proofs.Known.{below, alike, gives, first_is, known_list}
use Rattle.lists.proofs.Model.{laying, trying, seeking, fewest}
use Rattle.checking.specs.declared.Fault.TheVariants.{NoBox}
use Rattle.checking.specs.Finding.Finding.{Faulty}
use Rattle.checking.proofs.Faults.{no_box_at}
use Rattle.times.specs.declared.Time.TheVariants.{Value, Fault}
use Rattle.demands.specs.Known.{Example, sheet, drawn, time, Holds, table, Shown}
use Rattle.times.specs.Texts.{Numeral}
use Rattle.times.specs.Places.{value}
use Rattle.times.specs.Parts.{After, no_ones}
use Rattle.times.proofs.Behinds.{unpaired, after_some}
use Rattle.times.proofs.Fronts.{SoFar, far_none, far_step, stop_at, colon_at, led_stop, led_on, numeral_digit, numeral_more}
use Rattle.times.proofs.Words.{in-minutes, as_read}
use Rattle.times.specs.declared.Form.TheVariants.{Minutes}

-- the digits of two bytes at the front of a text
two_so_far : (a b : ℕ) (z : List ℕ) → (49 ≤ a) × (a ≤ 57) → (48 ≤ b) × (b ≤ 57) → SoFar (a ∷ b ∷ []) ((0 * 10 + (a - 48)) * 10 + (b - 48))
two_so_far a b z h k =
    let t : List ℕ = a ∷ b ∷ z in
    far_step t 1 (0 * 10 + (a - 48))
    (far_step t 0 0 far_none (omega arith) (record { digit = (omega arith, omega arith); plain = λ w. omega arith; small = omega arith })) (omega arith)
    (record { digit = k; plain = λ w. omega arith; small = omega arith })

nines : Numeral (ascii "599") 599
nines =
    numeral_more (ascii "59") 59 57
    (numeral_more (ascii "5") 5 57 (numeral_digit 53 (omega arith, omega arith)) (omega arith, omega arith) (omega arith))
    (omega arith, omega arith) (omega arith)

nought : Holds (time (ascii "0:00") (Value 0 Minutes))
nought = value (in-minutes (ascii "0") (ascii "00") 0 0 (numeral_digit 48 (omega arith, omega arith)) (omega arith) (record { small = omega arith; text = refl }))

longest : Holds (time (ascii "599:59") (Value 35999 Minutes))
longest = value (in-minutes (ascii "599") (ascii "59") 599 59 nines (omega arith) (record { small = omega arith; text = refl }))

too_long : Holds (time (ascii "600:00") (Fault 2))
too_long =
    as_read (led_stop (stop_at _ 2 60 (two_so_far 54 48 (ascii "0:00") (omega arith, omega arith) (omega arith, omega arith)) (omega arith) (λ e h. omega arith)
    (λ f. omega (arith, f.small))))

ends_early : Holds (time (ascii "12:3") (Fault 4))
ends_early =
    as_read (led_on _ 12 3 (colon_at _ 2 12 (two_so_far 49 50 (ascii ":3") (omega arith, omega arith) (omega arith, omega arith)) (omega arith) refl (omega arith))
    (unpaired (After 12) (λ x h. after_some 12 x) (ascii "3") (no_ones (omega arith) (omega arith, omega arith) (λ h d. omega arith))))

-- the last number is no box, whatever the first two are
nine : Holds (drawn 2 (1 ∷ 2 ∷ 3 ∷ []) (5 ∷ 5 ∷ 9 ∷ []) (Faulty NoBox 2))
nine = no_box_at 2 (among (1 ∷ 2 ∷ 3 ∷ [])) (among (1 ∷ 2 ∷ 3 ∷ [])) (5 ∷ 5 ∷ 9 ∷ []) 2 (record { inside = omega arith; none_before = before; here = omega arith })
  where
    before : (j : ℕ) → j < 2 → 9 ≤ get_or (5 ∷ 5 ∷ 9 ∷ []) j 0 → ⊥
    before zero h k = omega arith
    before (suc zero) h k = omega arith
    before (suc (suc j)) h k = omega arith

-- the lists of a table are computed at once; what is left are its times, and what is found of lists that were drawn

computed : List Example → Bool
computed [] = true
computed (sheet m class list ∷ l) = first_is m class list && computed l
computed (drawn m class list is ∷ l) = computed l
computed (time text is ∷ l) = computed l

Rest : List Example → Type 0
Rest [] = Unit {0}
Rest (sheet m class list ∷ l) = Rest l
Rest (drawn m class list is ∷ l) = Holds (drawn m class list is) × Rest l
Rest (time text is ∷ l) = Holds (time text is) × Rest l

shown : (l : List Example) → computed l ≡ true → Rest l → Shown l
unfolding computed Rest Shown
shown [] e t = tt
shown (sheet m class list ∷ l) e t =
    (known_list m class list (and_left (first_is m class list) _ e), shown l (and_right (first_is m class list) _ e) t)
shown (drawn m class list is ∷ l) e t = (t.0, shown l e t.1)
shown (time text is ∷ l) e t = (t.0, shown l e t.1)

lists_right : computed table ≡ true
unfolding computed table first_is gives alike below among agrees contains through first_from laying trying seeking fewest
lists_right = refl

rest_right : Rest table
unfolding Rest table
rest_right = (nine, (nought, (longest, (too_long, (ends_early, tt)))))

-- THE KNOWN SHEETS, LISTS AND TIMES
pub known : Shown table
known = shown table lists_right rest_right
