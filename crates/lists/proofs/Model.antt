-- The search as a function that antt can compute, with no bound but the number of boxes. It finds the first shortest list, so that there is one
-- wherever what is needed has room.
use mathlib.Core.Path.{◌≡◌, refl, ap, subst}
use mathlib.Core.Bool.{Bool, true, false, not, ◌&&◌}
use mathlib.Core.List.{List, [], ◌∷◌}
use mathlib.Core.Option.{Option, none, some}
use Prim.Native.Nat.{ℕ, zero, suc, ◌+◌, ◌^◌, ◌<◌, ◌≤◌, zero-le}
use native.Mathlib.Numerals.{add-one}
use native.Mathlib.Omega.{arith}
use lib.Dec.{ltb}
use lib.ListN.{length}
use borrow.Author.Tests.{lt-ltb, le-ltb, not-true}
use Rattle.boxes.specs.Boxes.{contains, through}
use Rattle.ground.proofs.Cases.{if, clash, below_or, and_left, and_right}
use Rattle.boxes.proofs.Boxes.{contains_combination}
use Rattle.boxes.proofs.Choices.{through-lt}
use Rattle.lists.specs.Lists.{Fits, lowest_of, FirstShortest, AtLeast, Small, Within, most_lines}
use Rattle.lists.proofs.Fit.{less, Inside, lowest-true, lowest-le}
use Rattle.lists.proofs.Lay.{none_needed, first_empty, some_box, Tried, tried_none, tried_next, longer_out, longer_deep, least_rest, laid_shortest, tried_all}
use Rattle.lists.proofs.Exist.{exists}

-- what finds a list of given boxes for what is needed, in a room
abbrev Finder : Type 0
Finder = (ℕ → Bool) → (ℕ → Bool) → Option (List ℕ)

-- no combination of the box lies outside the room
abbrev pub within : ℕ → ℕ → (ℕ → Bool) → Bool
within m b room = not (ltb (lowest_of m (λ c. contains m b c && not (room c))) (2 ^ m))

abbrev pub in_front : ℕ → Option (List ℕ) → Option (List ℕ)
in_front b none = none
in_front b (some l) = some (b ∷ l)

unfoldable pub laying : ℕ → Finder → (ℕ → Bool) → (ℕ → Bool) → ℕ → Option (List ℕ)
laying m f need room b = elim (within m b room) [ true ↦ in_front b (f (less m need b) (less m room b)) | false ↦ none ]

-- the first of k boxes through c, from turn t on, that leaves a list
unfoldable pub trying : ℕ → Finder → (ℕ → Bool) → (ℕ → Bool) → ℕ → ℕ → ℕ → Option (List ℕ)
trying m f need room c zero t = none
trying m f need room c (suc k) t =
    elim (laying m f need room (through m c t)) [ none ↦ trying m f need room c k (suc t) | some l ↦ some l ]

-- the first list of `left` boxes
unfoldable pub seeking : ℕ → ℕ → (ℕ → Bool) → (ℕ → Bool) → Option (List ℕ)
seeking m zero need room = elim (ltb (lowest_of m need) (2 ^ m)) [ true ↦ none | false ↦ some [] ]
seeking m (suc left) need room =
    elim (ltb (lowest_of m need) (2 ^ m)) [ true ↦ trying m (seeking m left) need room (lowest_of m need) (2 ^ m) 0 | false ↦ some [] ]

-- the first list of the fewest boxes, of k sizes from n on
unfoldable pub fewest : ℕ → (ℕ → Bool) → (ℕ → Bool) → ℕ → ℕ → Option (List ℕ)
fewest m need room zero n = none
fewest m need room (suc k) n = elim (seeking m n need room) [ none ↦ fewest m need room k (suc n) | some l ↦ some l ]

maybe : (o : Option (List ℕ)) {P : Type 0} → (o ≡ none → P) → ((l : List ℕ) → o ≡ some l → P) → P
maybe none f g = f refl
maybe (some l) f g = g l refl

within_inside : (m b : ℕ) (room : ℕ → Bool) → within m b room ≡ true → Inside m b room
within_inside m b room w c e = if (room c) (λ t. t)
    (λ t.
    let h : contains m b c ≡ true → c < 2 ^ m = contains_combination m b c in
    let le = lowest-le m (λ d. contains m b d && not (room d)) c (rw (e, t)) (h e) in
    absurd (clash (lt-ltb (lowest_of m (λ d. contains m b d && not (room d))) (2 ^ m) (omega (arith, le, h e))) (not-true _ w)))

within_out : (m b : ℕ) (room : ℕ → Bool) → within m b room ≡ false → Inside m b room → ⊥
within_out m b room w i = below_or (lowest_of m (λ d. contains m b d && not (room d))) (2 ^ m)
    (λ h. let t = lowest-true m (λ d. contains m b d && not (room d)) h in
    clash (i (lowest_of m (λ d. contains m b d && not (room d))) (and_left _ _ t)) (not-true _ (and_right (contains m b (lowest_of m (λ d. contains m b d && not (room d)))) _ t)))
    (λ h. clash (ap not (le-ltb _ _ h)) w)

-- what an answer says of the lists of `left` boxes
Right : ℕ → (ℕ → Bool) → (ℕ → Bool) → ℕ → Option (List ℕ) → Type 0
Right m need room left none = AtLeast m need room (left + 1)
Right m need room left (some l) = FirstShortest m need room l × (length l ≡ left)

module _ (m : ℕ) where
  module _ (left : ℕ) (find : Finder) (right : (need room : ℕ → Bool) → Small m need → AtLeast m need room left → Right m need room left (find need room)) where
    module _ (need room : ℕ → Bool) (s : Small m need) (least : AtLeast m need room (left + 1)) (some_need : lowest_of m need < 2 ^ m) where
      trying_right : (k t : ℕ) → t + k ≡ 2 ^ m → Tried m need room left (lowest_of m need) t → Right m need room (left + 1) (trying m find need room (lowest_of m need) k t)
      unfolding Right trying laying
      trying_right zero t e h =
          let a : AtLeast m need room (left + 2) = tried_all m need room left least (lowest_of m need) refl some_need (λ u l. h u (omega (arith, e, l))) in
          λ l f. omega (arith, a l f)
      trying_right (suc k) t e h =
          let c = lowest_of m need in
          let b = through m c t in
          if (within m b room)
          (λ w.
          let i = within_inside m b room w in
          let r = right (less m need b) (less m room b) (λ d q. s d (and_left _ _ q)) (least_rest m need room left least b (through-lt m c t) i) in
          maybe (find (less m need b) (less m room b))
          (λ q. rw (w, trying, laying, q) (trying_right k (suc t) (omega arith) (subst (Tried m need room left c) (add-one t) (tried_next m need room left c t h (longer_deep m need room left b (subst (Right m (less m need b) (less m room b) left) q r))))))
          (λ l q.
          let y : FirstShortest m (less m need b) (less m room b) l × (length l ≡ left) = subst (Right m (less m need b) (less m room b) left) q r in
          rw (w, trying, laying, q) (laid_shortest m need room left least c refl some_need t h l i y.0 y.1, omega (arith, y.1))))
          (λ w. rw (w, trying, laying) (trying_right k (suc t) (omega arith) (subst (Tried m need room left c) (add-one t) (tried_next m need room left c t h (longer_out m need room left b (within_out m b room w))))))

  empty_right : (left : ℕ) (need room : ℕ → Bool) → Small m need → AtLeast m need room left → 2 ^ m ≤ lowest_of m need → Right m need room left (some [])
  unfolding Right
  empty_right left need room s least h =
      let f = first_empty m need room (none_needed m need room s h) in
      (f, omega (arith, least [] f.fits))

  seeking_right : (left : ℕ) (need room : ℕ → Bool) → Small m need → AtLeast m need room left → Right m need room left (seeking m left need room)
  unfolding seeking Right
  seeking_right zero need room s least = below_or (lowest_of m need) (2 ^ m)
      (λ h. rw (lt-ltb _ _ h, seeking) (some_box m need room (lowest_of m need) (lowest-true m need h)))
      (λ h. rw (le-ltb _ _ h, seeking) (empty_right zero need room s least h))
  seeking_right (suc left) need room s least = below_or (lowest_of m need) (2 ^ m)
      (λ h. rw (lt-ltb _ _ h, seeking)
      (subst (λ (n : ℕ). Right m need room n (trying m (seeking m left) need room (lowest_of m need) (2 ^ m) 0)) (add-one left)
      (trying_right left (seeking m left) (seeking_right left) need room s (λ l f. omega (arith, least l f)) h (2 ^ m) 0 (omega arith) (tried_none m need room left (lowest_of m need)))))
      (λ h. rw (le-ltb _ _ h, seeking) (empty_right (suc left) need room s least h))

  fewest_right : (need room : ℕ → Bool) → Small m need → (k n : ℕ) → AtLeast m need room n → (x : List ℕ) → Fits m need room x → length x < n + k
      → (l : List ℕ) × (fewest m need room k n ≡ some l) × FirstShortest m need room l
  unfolding fewest Right
  fewest_right need room s zero n least x f h = absurd (omega (arith, least x f))
  fewest_right need room s (suc k) n least x f h =
      let r = seeking_right n need room s least in
      maybe (seeking m n need room)
      (λ q.
      let more : AtLeast m need room (n + 1) = subst (Right m need room n) q r in
      let y = fewest_right need room s k (suc n) (λ l g. omega (arith, more l g)) x f (omega arith) in
      (y.0, rw (q, fewest) y.1, y.2))
      (λ l q. let y : FirstShortest m need room l × (length l ≡ n) = subst (Right m need room n) q r in (l, rw (q, fewest), y.0))

-- A FIRST SHORTEST LIST EXISTS wherever what is needed has room, and the search by sizes finds it
pub found : (m : ℕ) (need room : ℕ → Bool) → Small m need → Within need room
    → (l : List ℕ) × (fewest m need room (most_lines m + 1) 0 ≡ some l) × FirstShortest m need room l
found m need room s h =
    let x = exists m need room s h in
    fewest_right m need room s (most_lines m + 1) 0 (λ l f. zero-le) x.0 x.1 (omega (arith, x.2))
