-- What a box contains, and the sums over a box. Every law of sums follows from one step: the combinations of a box over one mark more are
-- the even ones and the odd ones, where its lowest digit lets them through.
use Prim.Native.Nat.{ℕ, zero, suc, ◌+◌, ◌*◌, ◌-◌, ◌/◌, ◌%◌, ◌^◌, ◌<◌, ◌≤◌}
use mathlib.Core.Bool.{Bool, true, false, ◌&&◌}
use mathlib.Core.Path.{◌≡◌, sym, ◌∙◌, ap}
use native.Mathlib.Nat.{pow-suc, pow-succ', one-le-pow, add-zero, div-one, div-div-eq-div-mul, div-mul-le_self, mul-le-mul_right}
use native.Mathlib.Numerals.{add-one}
use native.Mathlib.Omega.{arith}
use lib.Dec.{eqb}
use borrow.Author.Tests.{eq-eqb, eqb-true}
use Rattle.boxes.specs.Sums.{sum, only}
use Rattle.boxes.specs.Boxes.{agrees, contains, sum_in, free_count, all_free}
use Rattle.ground.proofs.Cases.{if, digit, and_left, and_right}
use Rattle.boxes.proofs.Sums.{sum_ext, sum-zero, sum-le, sum_term, sum_change, sum_pairs, sum-mul, sum-only, only-and, only-le, only_mono, only_plus, only_times}

-- what contains something is a box, and what is contained a combination

pub contains_combination : (m b c : ℕ) → contains m b c ≡ true → c < 2 ^ m
unfolding contains
contains_combination zero b c e = omega (arith, eqb-true c 0 (and_right (eqb b 0) (eqb c 0) e))
contains_combination (suc m) b c e =
    omega (arith, pow-suc 2 m, contains_combination m (b / 3) (c / 2) (and_right (agrees (b % 3) (c % 2)) _ e))

pub contains_box : (m b c : ℕ) → contains m b c ≡ true → b < 3 ^ m
unfolding contains
contains_box zero b c e = omega (arith, eqb-true b 0 (and_left (eqb b 0) (eqb c 0) e))
contains_box (suc m) b c e = omega (arith, pow-suc 3 m, contains_box m (b / 3) (c / 2) (and_right (agrees (b % 3) (c % 2)) _ e))

pub contains_nothing : (m b c : ℕ) → 3 ^ m ≤ b → contains m b c ≡ false
contains_nothing m b c l = if (contains m b c) (λ e. absurd (omega (arith, contains_box m b c e))) (λ e. e)

pub contains-all : (m c : ℕ) → c < 2 ^ m → contains m (all_free m) c ≡ true
unfolding contains agrees
contains-all zero c l = eq-eqb c 0 (omega arith)
contains-all (suc m) c l =
    let p : 0 < 3 ^ m = one-le-pow m 3 (omega arith) in
    let e : (3 ^ suc m - 1) % 3 ≡ 2 = omega (arith, pow-suc 3 m) in
    let d : (3 ^ suc m - 1) / 3 ≡ 3 ^ m - 1 = omega (arith, pow-suc 3 m) in
    simp (e, d) (contains-all m (c / 2) (omega (arith, pow-suc 2 m)))

-- one digit of a box

pub contains_even : (m b c : ℕ) → contains (suc m) b (c * 2) ≡ (agrees (b % 3) 0 && contains m (b / 3) c)
unfolding contains
contains_even m b c =
    let e : c * 2 % 2 ≡ 0 = omega arith in
    let h : c * 2 / 2 ≡ c = omega arith in
    rw (e, h)

pub contains_odd : (m b c : ℕ) → contains (suc m) b (c * 2 + 1) ≡ (agrees (b % 3) 1 && contains m (b / 3) c)
unfolding contains
contains_odd m b c =
    let e : (c * 2 + 1) % 2 ≡ 1 = omega arith in
    let h : (c * 2 + 1) / 2 ≡ c = omega arith in
    rw (e, h)

pub sum_in_step : (m b : ℕ) (f : ℕ → ℕ)
    → sum_in (suc m) b f ≡ only (agrees (b % 3) 0) (sum_in m (b / 3) (λ c. f (c * 2))) + only (agrees (b % 3) 1) (sum_in m (b / 3) (λ c. f (c * 2 + 1)))
unfolding sum_in
sum_in_step m b f = simp (pow-suc, sum_pairs, contains_even, contains_odd, only-and, sum-only)

-- what a change at one combination does: g is f but for d more at k

pub sum_in_change : (m b : ℕ) (f g : ℕ → ℕ) (k d : ℕ) → k < 2 ^ m → ((c : ℕ) → c < 2 ^ m → (c ≡ k → ⊥) → g c ≡ f c) → g k ≡ f k + d
    → sum_in m b g ≡ sum_in m b f + only (contains m b k) d
unfolding sum_in
sum_in_change m b f g k d l h e =
    sum_change (2 ^ m) (λ c. only (contains m b c) (f c)) (λ c. only (contains m b c) (g c)) k (only (contains m b k) d) l
    (λ c lc n. ap (only (contains m b c)) (h c lc n))
    (only_plus (contains m b k) (f k) (g k) d e)

-- equal and smaller quantities

pub sum_in_ext : (m b : ℕ) (f g : ℕ → ℕ) → ((c : ℕ) → c < 2 ^ m → f c ≡ g c) → sum_in m b f ≡ sum_in m b g
unfolding sum_in
sum_in_ext m b f g h = sum_ext (2 ^ m) _ _ (λ c l. ap (only (contains m b c)) (h c l))

-- a number that is no box has nothing
pub sum_in_nothing : (m b : ℕ) (f : ℕ → ℕ) → 3 ^ m ≤ b → sum_in m b f ≡ 0
unfolding sum_in
sum_in_nothing m b f l = sum_ext (2 ^ m) _ _ (λ c lc. ap (λ (t : Bool). only t (f c)) (contains_nothing m b c l)) ∙ sum-zero (2 ^ m)

pub sum_in_mono : (m b : ℕ) (f g : ℕ → ℕ) → ((c : ℕ) → c < 2 ^ m → f c ≤ g c) → sum_in m b f ≤ sum_in m b g
unfolding sum_in
sum_in_mono m b f g h = sum-le (2 ^ m) _ _ (λ c l. only_mono (contains m b c) (h c l))

-- a combination's own share is at most the sum of any box that contains it
pub sum_in_term : (m b c : ℕ) (f : ℕ → ℕ) → contains m b c ≡ true → f c ≤ sum_in m b f
unfolding sum_in
sum_in_term m b c f e =
    let one : only (contains m b c) (f c) ≤ sum_in m b f = sum_term (2 ^ m) (λ x. only (contains m b x) (f x)) c (contains_combination m b c e) in
    omega (arith, ap (λ (t : Bool). only t (f c)) e)

-- the all-free box has every combination, so that its sum bounds every other

pub sum_in-all : (m : ℕ) (f : ℕ → ℕ) → sum_in m (all_free m) f ≡ sum (2 ^ m) f
unfolding sum_in
sum_in-all m f = sum_ext (2 ^ m) _ _ (λ c l. ap (λ (t : Bool). only t (f c)) (contains-all m c l))

pub sum_in-le-all : (m b : ℕ) (f : ℕ → ℕ) → sum_in m b f ≤ sum_in m (all_free m) f
unfolding sum_in
sum_in-le-all m b f =
    let le : sum_in m b f ≤ sum (2 ^ m) f = sum-le (2 ^ m) _ _ (λ c l. only-le (contains m b c) (f c)) in
    omega (arith, sum_in-all m f)

-- a box of f free marks has 2^f combinations

sum_in_none : (c : ℕ) (f : ℕ → ℕ) → sum_in 0 0 f ≡ f 0
unfolding sum_in sum contains
sum_in_none c f = omega arith

pub sum_in_count : (m b : ℕ) → b < 3 ^ m → sum_in m b (λ c. 1) ≡ 2 ^ free_count m b
unfolding free_count agrees
sum_in_count zero b l =
    let e : b ≡ 0 = omega arith in
    ap (λ (x : ℕ). sum_in 0 x (λ c. 1)) e ∙ sum_in_none 0 (λ c. 1)
sum_in_count (suc m) b l =
    let ih : sum_in m (b / 3) (λ c. 1) ≡ 2 ^ free_count m (b / 3) = sum_in_count m (b / 3) (omega (arith, pow-suc 3 m)) in
    sum_in_step m b (λ c. 1) ∙
    digit
    (λ (d : ℕ). only (agrees d 0) (sum_in m (b / 3) (λ c. 1)) + only (agrees d 1) (sum_in m (b / 3) (λ c. 1)) ≡ 2 ^ (free_count m (b / 3) + d / 2))
    (b % 3)
    (omega arith)
    (simp add-zero (omega arith))
    (simp add-zero (omega arith))
    (simp (add-one, pow-suc) (omega arith))

-- where no combination has more than x, a box has at most x for each of its combinations
pub sum_in_bound : (m b x : ℕ) (f : ℕ → ℕ) → b < 3 ^ m → ((c : ℕ) → c < 2 ^ m → f c ≤ x) → sum_in m b f ≤ 2 ^ free_count m b * x
unfolding sum_in
sum_in_bound m b x f l h =
    let each : sum_in m b (λ c. x) ≡ sum (2 ^ m) (λ c. only (contains m b c) 1 * x) =
    sum_ext (2 ^ m) _ _ (λ c lc. only_times (contains m b c) x) in
    let all : sum (2 ^ m) (λ c. only (contains m b c) 1 * x) ≡ 2 ^ free_count m b * x =
    sum-mul (2 ^ m) (λ c. only (contains m b c) 1) x ∙ ap (λ (n : ℕ). n * x) (sum_in_count m b l) in
    omega (arith, sum_in_mono m b f (λ c. x) h)

-- a box with a free mark is its two halves at that mark: the digit 2 made 0, and made 1

third_up : (i b : ℕ) → b / 3 ^ suc i ≡ b / 3 / 3 ^ i
third_up i b = ap (λ (p : ℕ). b / p) (pow-succ' 3 i) ∙ sym (div-div-eq-div-mul b 3 (3 ^ i))

-- its number is at least 2 at that mark
pub free_le : (i b : ℕ) → b / 3 ^ i % 3 ≡ 2 → 3 ^ i * 2 ≤ b
free_le i b e =
    let two : 2 ≤ b / 3 ^ i = omega arith in
    omega (arith, mul-le-mul_right (3 ^ i) two, div-mul-le_self b (3 ^ i))

pub sum_in_halves : (m i b : ℕ) (f : ℕ → ℕ) → i < m → b / 3 ^ i % 3 ≡ 2 → sum_in m b f ≡ sum_in m (b - 3 ^ i * 2) f + sum_in m (b - 3 ^ i) f
unfolding agrees
sum_in_halves zero i b f l e = absurd (omega arith)
sum_in_halves (suc m) zero b f l e =
    let q : b % 3 ≡ 2 = rw div-one at e in
    let e0 : (b - 2) % 3 ≡ 0 = omega arith in
    let d0 : (b - 2) / 3 ≡ b / 3 = omega arith in
    let e1 : (b - 1) % 3 ≡ 1 = omega arith in
    let d1 : (b - 1) / 3 ≡ b / 3 = omega arith in
    simp (sum_in_step, q, e0, d0, e1, d1) (omega arith)
sum_in_halves (suc m) (suc i) b f l e =
    let q : b / 3 / 3 ^ i % 3 ≡ 2 = ap (λ (n : ℕ). n % 3) (sym (third_up i b)) ∙ e in
    let p = pow-suc 3 i in
    let le : 3 ^ i * 2 ≤ b / 3 = free_le i (b / 3) q in
    let e0 : (b - 3 ^ i * 3 * 2) % 3 ≡ b % 3 = omega arith in
    let d0 : (b - 3 ^ i * 3 * 2) / 3 ≡ b / 3 - 3 ^ i * 2 = omega arith in
    let e1 : (b - 3 ^ i * 3) % 3 ≡ b % 3 = omega arith in
    let d1 : (b - 3 ^ i * 3) / 3 ≡ b / 3 - 3 ^ i = omega arith in
    rw p
    (simp (sum_in_step, e0, d0, e1, d1)
    (omega (
      arith,
      only_plus (agrees (b % 3) 0) _ _ _ (sum_in_halves m i (b / 3) (λ c. f (c * 2)) (omega arith) q),
      only_plus (agrees (b % 3) 1) _ _ _ (sum_in_halves m i (b / 3) (λ c. f (c * 2 + 1)) (omega arith) q),
    )))
