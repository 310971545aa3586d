-- Weights show that no short list fits. Each combination has two weights, p and q; a box costs `whole` and what q has more than p in it. Added up over
-- a fitting list these are sums over what the list covers, and what the room has besides weighs no less in q than in p.
use mathlib.Core.Path.{◌≡◌, refl, sym, ap, ◌∙◌}
use mathlib.Core.Bool.{Bool, true, false}
use mathlib.Core.List.{List, [], ◌∷◌}
use Prim.Native.Nat.{ℕ, ◌+◌, ◌*◌, ◌^◌, ◌<◌, ◌≤◌, zero-le}
use native.Mathlib.Nat.{zero-mul, suc-mul}
use native.Mathlib.Numerals.{add-one}
use native.Mathlib.Omega.{arith}
use lib.Bits.{bit_and}
use lib.Dec.{lit<}
use lib.ListN.{length, set, replicate, get_or-replicate}
use lib.Seq.{get_or-set_same, get_or-set_other}
use Rattle.boxes.specs.Sums.{sum, sum_over, only}
use Rattle.boxes.specs.Boxes.{contains}
use Rattle.ground.proofs.Cases.{if, clash, below_or}
use Rattle.boxes.proofs.Numbers.{boxes_mono}
use Rattle.boxes.proofs.Sums.{sum_ext, sum-add, sum-le, only-and}
use Rattle.lists.specs.Lists.{covered, Fits}
use Rattle.lists.specs.Pottosin.{Interval, Independent}
use Rattle.lists.proofs.Count.{lines_upto}
use Rattle.lists.proofs.Fit.{Inside}
use Rattle.lists.proofs.Pottosin.{fits_independent}
use Rattle.sets.specs.Sets.{set_marks, has, value_at}
use Rattle.sets.proofs.Bits.{has-and, has-shr}
use Rattle.costs.specs.Costs.{weight, whole, Certified}

-- what f gives where p holds
abbrev pub given : (ℕ → Bool) → (ℕ → ℕ) → ℕ → ℕ
given p f c = only (p c) (f c)

-- ---- THE CERTIFICATE
module _ (m : ℕ) (costs : List ℕ) (p q : ℕ → ℕ) (need room : ℕ → Bool)
    (rule : (b : ℕ) → Interval m room b → value_at costs b + weight (contains m b) p ≡ whole + weight (contains m b) q) where
  paid : (l : List ℕ) → Independent m room l
      → sum_over l (value_at costs) + sum_over l (λ b. weight (contains m b) p) ≡ length l * whole + sum_over l (λ b. weight (contains m b) q)
  unfolding sum_over Independent
  paid [] i = omega (arith, zero-mul whole)
  paid (b ∷ l) i = omega (arith, rule b i.0, paid l i.2, suc-mul (length l) whole)

  module _ (low : (c : ℕ) → need c ≡ false → p c ≤ q c) where
    -- what is covered has room, and what is not covered is not needed
    one_each : (l : List ℕ) → Fits m need room l → (c : ℕ)
        → only (room c) (p c) + only (covered m l c) (q c) ≤ only (covered m l c) (p c) + only (room c) (q c)
    one_each l f c = if (covered m l c)
        (λ e. rw (e, f.inside c e) (omega arith))
        (λ e. if (need c)
        (λ t. absurd (clash (f.covers c t) e))
        (λ t. if (room c) (λ r. rw (e, r) (omega (arith, low c t))) (λ r. rw (e, r) (omega arith))))

    spread : (l : List ℕ) → Fits m need room l → weight room p + weight (covered m l) q ≤ weight (covered m l) p + weight room q
    spread l f = omega (
      arith,
      sum-add (2 ^ set_marks) (given room p) (given (covered m l) q),
      sum-add (2 ^ set_marks) (given (covered m l) p) (given room q),
      sum-le (2 ^ set_marks) (λ c. given room p c + given (covered m l) q c) (λ c. given (covered m l) p c + given room q c) (λ c h. one_each l f c),
    )

    pub costs_most : (l : List ℕ) → Fits m need room l → sum_over l (value_at costs) + weight room p ≤ length l * whole + weight room q
    costs_most l f = omega (
      arith,
      paid l (fits_independent m room f),
      lines_upto m (2 ^ set_marks) l p f.apart,
      lines_upto m (2 ^ set_marks) l q f.apart,
      spread l f,
    )

-- ---- a weight in rising combinations
sum_step : (c : ℕ) (f : ℕ → ℕ) → sum (c + 1) f ≡ sum c f + f c
unfolding sum
sum_step c f = ap (λ (n : ℕ). sum n f) (add-one c)

pub weight_none : (f : ℕ → ℕ) → 0 ≡ sum 0 f
unfolding sum
weight_none f = refl

pub weight_in : (c : ℕ) (p : ℕ → Bool) (f : ℕ → ℕ) → p c ≡ true → sum (c + 1) (given p f) ≡ sum c (given p f) + f c
weight_in c p f e = sum_step c (given p f) ∙ ap (λ (x : Bool). sum c (given p f) + only x (f c)) e

pub weight_out : (c : ℕ) (p : ℕ → Bool) (f : ℕ → ℕ) → p c ≡ false → sum (c + 1) (given p f) ≡ sum c (given p f)
weight_out c p f e = sum_step c (given p f) ∙ ap (λ (x : Bool). sum c (given p f) + only x (f c)) e ∙ omega arith

-- a weight, a combination at a time
pub ruleset weight_steps = (has-shr, weight_none, weight_in, weight_out)

-- ---- the table of costs
weight-same : (s : ℕ) (p : ℕ → Bool) (f : ℕ → ℕ) → ((c : ℕ) → has s c ≡ p c) → weight (has s) f ≡ weight p f
weight-same s p f e = sum_ext (2 ^ set_marks) (given (has s) f) (given p f) (λ c h. ap (λ (x : Bool). only x (f c)) (e c))

weight-and : (s u : ℕ) (p : ℕ → Bool) (f : ℕ → ℕ) → ((c : ℕ) → has s c ≡ p c) → weight (has (bit_and s u)) f ≡ weight p (given (has u) f)
weight-and s u p f e = sum_ext (2 ^ set_marks) (given (has (bit_and s u)) f) (given p (given (has u) f))
    (λ c h. ap (λ (x : Bool). only x (f c)) (has-and c s u) ∙ only-and (has s c) (has u c) (f c) ∙ ap (λ (x : Bool). only x (only (has u c) (f c))) (e c))

-- the boxes of the room below n cost what they should
abbrev pub Priced : ℕ → (ℕ → Bool) → (ℕ → Bool) → (ℕ → ℕ) → (ℕ → ℕ) → List ℕ → ℕ → Type 0
Priced m need room plus minus costs n =
    (a : ℕ) → a < n → Inside m a room → value_at costs a + weight (contains m a) (given need plus) ≡ whole + weight (contains m a) minus

module _ (m need room : ℕ) (plus minus : ℕ → ℕ) (costs : List ℕ) (b : ℕ) (h : Priced m (has need) (has room) plus minus costs b) where
  pub priced_skip : (Inside m b (has room) → ⊥) → Priced m (has need) (has room) plus minus costs (b + 1)
  priced_skip n a l w = below_or a b (λ q. h a q w) (λ q. let d : b ≡ a = omega arith in absurd (n (rw d w)))

  pub priced_set : (s v : ℕ) → ((c : ℕ) → has s c ≡ contains m b c) → b < length costs
      → v + weight (has (bit_and s need)) plus ≡ whole + weight (has s) minus → Priced m (has need) (has room) plus minus (set costs b v) (b + 1)
  priced_set s v e lt p a l w = below_or a b
      (λ q. ap (λ (x : ℕ). x + weight (contains m a) (given (has need) plus)) (get_or-set_other costs b a v 0 (λ (z : a ≡ b). omega arith)) ∙ h a q w)
      (λ q.
      let d : a ≡ b = omega arith in
      rw d (ap (λ (x : ℕ). x + weight (contains m b) (given (has need) plus)) (get_or-set_same costs b v 0 lt)
      ∙ ap (λ (x : ℕ). v + x) (sym (weight-and s need (contains m b) plus e)) ∙ p ∙ ap (λ (x : ℕ). whole + x) (weight-same s (contains m b) minus e)))

  pub priced_all : b ≡ 3 ^ m → weight (has room) minus < 2 ^ 37
      → Certified m costs (has need) (has room) (weight (has (bit_and room need)) plus) (weight (has room) minus)
  priced_all d small = record {
    cost = rw (weight-and room need (has room) plus (λ c. refl))
        (costs_most m costs (given (has need) plus) minus (has need) (has room) (λ a i. h a (omega (arith, d, i.0)) i.1) (λ c e. rw e zero-le));
    small = small;
  }

-- weights of 0
even : (m : ℕ) (costs : List ℕ) (room : ℕ → Bool) → ((b : ℕ) → b < 3 ^ m → value_at costs b ≡ whole) → (l : List ℕ) → Independent m room l → sum_over l (value_at costs) ≡ length l * whole
unfolding sum_over Independent
even m costs room h [] i = sym (zero-mul whole)
even m costs room h (b ∷ l) i = omega (arith, h b i.0.0, even m costs room h l i.2, suc-mul (length l) whole)

pub plain_certified : (m : ℕ) (need room : ℕ → Bool) → m ≤ set_marks → Certified m (replicate (3 ^ set_marks) whole) need room 0 0
plain_certified m need room h = record {
  cost = λ l f. omega (arith, even m (replicate (3 ^ set_marks) whole) room (λ b q. get_or-replicate (3 ^ set_marks) b whole 0 (omega (arith, q, boxes_mono h))) l (fits_independent m room f));
  small = lit< tt;
}
