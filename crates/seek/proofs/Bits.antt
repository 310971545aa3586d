-- Sets as numbers against boxes and lists: what is left of a set without a box, whether a box lies in a set, and a set's lowest combination.
use mathlib.Core.Path.{◌≡◌, sym, ap, ◌∙◌, fun_ext}
use mathlib.Core.Bool.{Bool, not, ◌&&◌}
use Prim.Native.Nat.{ℕ, ◌-◌, ◌^◌, ◌<◌}
use lib.Bits.{bit_and}
use lib.Count.{count_trailing_zeros}
use Rattle.ground.proofs.Cases.{below_or}
use Rattle.boxes.specs.Boxes.{contains}
use Rattle.sets.specs.Sets.{has}
use Rattle.sets.proofs.Bits.{has-and, has-not, has_high, within_yes, within_no, zeros_needed, zeros_lt, zeros_below}
use Rattle.lists.specs.Lists.{lowest_of}
use Rattle.lists.proofs.Fit.{less, Inside, lowest-is}

-- ---- the set s of the box b
module _ (m b s : ℕ) (bits : (c : ℕ) → has s c ≡ contains m b c) where
  -- `a & !s` is a less the box
  pub has_less : (a : ℕ) → a < 2 ^ 32 → s < 2 ^ 32 → has (bit_and a (4294967295 - s)) ≡ less m (has a) b
  has_less a ha hs = fun_ext (λ c. below_or c 32
      (λ h. has-and c a (4294967295 - s) ∙ ap (λ (x : Bool). has a c && x) (has-not c 32 s hs h ∙ ap not (bits c)))
      (λ h. has-and c a (4294967295 - s) ∙ ap (λ (x : Bool). x && has (4294967295 - s) c) (has_high 32 c a ha h)
      ∙ sym (ap (λ (x : Bool). x && not (contains m b c)) (has_high 32 c a ha h))))

  -- `s & r == s` tells whether the box lies in r
  pub inside_yes : (r : ℕ) → bit_and s r ≡ s → Inside m b (has r)
  inside_yes r e c t = within_yes s r e c (bits c ∙ t)

  pub inside_no : (r : ℕ) → (bit_and s r ≡ s → ⊥) → Inside m b (has r) → ⊥
  inside_no r n i = within_no s r n (λ c t. i c (sym (bits c) ∙ t))

-- where the set is not empty, `trailing_zeros` is its lowest combination
pub zeros_lowest : (m u : ℕ) → u < 2 ^ 32 → u < 2 ^ (2 ^ m) → (u ≡ 0 → ⊥) → lowest_of m (has u) ≡ count_trailing_zeros 32 u
zeros_lowest m u wide small some =
    lowest-is m (has u) (count_trailing_zeros 32 u) (zeros_needed m u wide small some) (zeros_lt m u wide small some) (λ d l. zeros_below 32 u d l)
