-- The tests of the C entry are what the search asks, and its answer is carried over.
use mathlib.Core.Path.{◌≡◌, refl}
use mathlib.Core.List.{List}
use Prim.Native.Nat.{ℕ, ◌+◌, ◌/◌, ◌^◌, ◌<◌, ◌≤◌}
use native.Mathlib.Nat.{div-eq_of_lt, div-lt_iff_lt-mul, one-mul}
use native.Mathlib.Numerals.{add-one}
use native.Mathlib.Omega.{arith}
use lib.Bits.{bit_and}
use lib.ListN.{length}
use lib.Pow.{pow_pos}
use Rattle.sets.specs.Sets.{set_marks, has}
use Rattle.sets.proofs.Bits.{within_yes}
use Rattle.lists.specs.Lists.{most_lines}
use Rattle.seek.specs.Answer.{Askable, Sought}
use Rattle.seek_c.specs.Told.{Told}

-- nothing is left after a shift by n exactly if the number is below 2 ^ n
shifted_out : (a n : ℕ) → a / 2 ^ n ≡ 0 → a < 2 ^ n
shifted_out a n e = omega (arith, (div-lt_iff_lt-mul {k = 2 ^ n} {x = a} {y = 1} (pow_pos n)).0 (omega (arith, e)), one-mul (2 ^ n))

pub shifted_in : (a n : ℕ) → (a / 2 ^ n ≡ 0 → ⊥) → a < 2 ^ n → ⊥
shifted_in a n h l = h (div-eq_of_lt l)

-- the four tests
pub askable : (m need room : ℕ) (area : List ℕ) {n : ℕ} → m ≤ set_marks → most_lines m ≤ length area → n ≡ 2 ^ m → need / 2 ^ n ≡ 0 → bit_and need room ≡ need
    → Askable m need room area
askable m need room area h l e z w = record { marks = h; small = rw e at (shifted_out need _ z); within = within_yes need room w; long = l }

-- where one of them fails, and where none does

pub untold : (m need room : ℕ) (area : List ℕ) → (Askable m need room area → ⊥) → Told m need room 0 area area
untold m need room area n = record { asked = λ a. absurd (n a); refused = λ k. (refl, refl) }

pub told : (m need room k : ℕ) (before after : List ℕ) → Askable m need room before → Sought m (has need) (has room) k after → Told m need room (k + 1) before after
told m need room k before after may s = record { asked = λ a. (k, add-one k, s); refused = λ n. absurd (n may) }
