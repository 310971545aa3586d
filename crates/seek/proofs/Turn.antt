-- One turn of the search at the combination c: the box b of turn t, whose set is s, is passed over or laid.
use mathlib.Core.Path.{◌≡◌, ap, ◌∙◌, subst}
use mathlib.Core.List.{List, [], ◌∷◌}
use Prim.Native.Nat.{ℕ, ◌+◌, ◌-◌, ◌^◌, ◌<◌, ◌≤◌}
use native.Mathlib.Numerals.{add-one}
use native.Mathlib.Omega.{arith}
use lib.Bits.{bit_and, and_le_l}
use lib.Count.{count_trailing_zeros}
use lib.ListN.{length, take}
use lib.Pow.{pow_mono}
use lib.Seq.{length-take-le}
use Rattle.boxes.specs.Sums.{sum_over}
use Rattle.boxes.specs.Boxes.{contains, through}
use Rattle.ground.proofs.Cases.{clash, below_or, same_or}
use Rattle.lists.specs.Lists.{lowest_of, FirstShortest, AtLeast}
use Rattle.lists.proofs.Fit.{less, Inside, fits_cons}
use Rattle.lists.proofs.Lay.{Tried, Longer, tried_next, longer_out, longer_deep, least_rest, laid_shortest, first_empty, some_box, tried_all}
use Rattle.sets.specs.Sets.{set_marks, has, value_at}
use Rattle.sets.proofs.Bits.{has-zero, zeros_needed, zeros_lt}
use Rattle.seek.specs.Steps.{Open}
use Rattle.seek.proofs.Bits.{has_less, inside_yes, inside_no, zeros_lowest}

-- ---- the lowest combination that is not covered
module _ {m left need room spare : ℕ} {costs : List ℕ} (few : m ≤ set_marks) (n : Open m costs need room left spare) where
  need_wide : need < 2 ^ 32
  need_wide =
      let p : 2 ^ m ≤ 2 ^ set_marks = pow_mono few in
      let q : 2 ^ (2 ^ m) ≤ 2 ^ 32 = pow_mono p in
      omega (arith, q, n.stage.small)

  -- none: the empty list
  pub none_left : need ≡ 0 → (area : List ℕ) → FirstShortest m (has need) (has room) (take left area)
  none_left e area =
      let f = first_empty m (has need) (has room) (λ c t. clash t (ap (λ (u : ℕ). has u c) e ∙ has-zero c)) in
      let z : left ≡ 0 = omega (arith, n.stage.least [] f.fits) in
      rw z f

  module _ (some : need ≡ 0 → ⊥) where
    pub one_left : left ≡ 0 → AtLeast m (has need) (has room) (left + 1)
    one_left e l f = omega (arith, some_box m (has need) (has room) _ (zeros_needed m need need_wide n.stage.small some) l f)

    pub left_lowest : lowest_of m (has need) ≡ count_trailing_zeros 32 need
    left_lowest = zeros_lowest m need need_wide n.stage.small some

    pub left_lt : count_trailing_zeros 32 need < 2 ^ m
    left_lt = zeros_lt m need need_wide n.stage.small some

-- where some box is left, one and the others are
pub one_more : {m left need room spare : ℕ} {costs : List ℕ} → Open m costs need room left spare → 0 < left → Open m costs need room (left - 1 + 1) spare
one_more {left = left} n h = let e : left ≡ left - 1 + 1 = omega arith in rw (← e) n

-- ---- a turn
module _ {m need room spare : ℕ} {costs : List ℕ} (few : m ≤ set_marks) (left : ℕ) (n : Open m costs need room (left + 1) spare) (hr : room < 2 ^ 32)
    (c t b s : ℕ) (lt : b < 3 ^ m) (is : b ≡ through m c t) (row : (s < 2 ^ 32) × ((c : ℕ) → has s c ≡ contains m b c)) where
  -- the sets that are handed on are those less the box
  rest_need : has (bit_and need (4294967295 - s)) ≡ less m (has need) b
  rest_need = has_less m b s row.1 need (need_wide few n) row.0

  rest_room : has (bit_and room (4294967295 - s)) ≡ less m (has room) b
  rest_room = has_less m b s row.1 room hr row.0

  module _ (inside : bit_and s room ≡ s) where
    in-room : Inside m b (has room)
    in-room = inside_yes m b s row.1 room inside

    -- what is left where the box is laid
    pub deeper : value_at costs b ≤ spare
        → Open m costs (bit_and need (4294967295 - s)) (bit_and room (4294967295 - s)) left (spare - value_at costs b)
    unfolding sum_over
    deeper h = record {
      stage = record {
        small = omega (arith, and_le_l need (4294967295 - s), n.stage.small);
        least = rw (rest_need, rest_room) (least_rest m (has need) (has room) left n.stage.least b lt in-room);
      };
      most = rw (rest_need, rest_room) (λ l f g. omega (arith, n.most (b ∷ l) (fits_cons m lt in-room f) (omega (arith, g)), h));
    }

    -- it leaves one
    pub turn_hit : lowest_of m (has need) ≡ c → c < 2 ^ m → Tried m (has need) (has room) left c t → (ys : List ℕ) → left ≤ length ys
        → FirstShortest m (has (bit_and need (4294967295 - s))) (has (bit_and room (4294967295 - s))) (take left ys)
        → FirstShortest m (has need) (has room) (take (left + 1) (b ∷ ys))
    turn_hit lowest small tried ys hy f =
        let g : FirstShortest m (less m (has need) b) (less m (has room) b) (take left ys) = rw (rest_need, rest_room) at f in
        rw (add-one left, is)
        (laid_shortest m (has need) (has room) left n.stage.least c lowest small t tried (take left ys)
        (subst (λ (x : ℕ). Inside m x (has room)) is in-room)
        (subst (λ (x : ℕ). FirstShortest m (less m (has need) x) (less m (has room) x) (take left ys)) is g)
        (length-take-le left ys hy))

  -- it leads to no list: it leaves the room, or it costs more than there is to spare, or no list is deeper
  pub turn_on : Tried m (has need) (has room) left c t
      → (bit_and s room ≡ s → value_at costs b ≤ spare → AtLeast m (has (bit_and need (4294967295 - s))) (has (bit_and room (4294967295 - s))) (left + 1))
      → Tried m (has need) (has room) left c (t + 1)
  unfolding sum_over
  turn_on tried none =
      let dear : spare < value_at costs b → Longer m (has need) (has room) left b =
      λ h l f. below_or left (length l) (λ g. g) (λ g. absurd (omega (arith, n.most (b ∷ l) f (omega (arith, g)), h))) in
      tried_next m (has need) (has room) left c t tried (subst (Longer m (has need) (has room) left) is
      (same_or (bit_and s room) s
      (λ inside. below_or spare (value_at costs b) dear (λ h. longer_deep m (has need) (has room) left b (rw (rest_need, rest_room) at (none inside h))))
      (λ out. longer_out m (has need) (has room) left b (inside_no m b s row.1 room out))))

-- no box through c leads to a list
pub turns_end : {m need room spare : ℕ} {costs : List ℕ} (left : ℕ) → Open m costs need room (left + 1) spare
    → (c t : ℕ) → lowest_of m (has need) ≡ c → c < 2 ^ m → 2 ^ m ≤ t → Tried m (has need) (has room) left c t → AtLeast m (has need) (has room) (left + 1 + 1)
turns_end {m} {need} {room} left n c t lowest small h tried l f =
    let g = tried_all m (has need) (has room) left n.stage.least c lowest small (λ u q. tried u (omega (arith, q, h))) l f in
    omega (arith, g)
