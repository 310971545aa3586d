-- Laws of sums over the numbers below n and over a list, for any quantity summed.
use Prim.Native.Nat.{ℕ, zero, suc, ◌+◌, ◌*◌, ◌<◌, ◌≤◌, zero-le}
use mathlib.Core.Bool.{Bool, true, false, ◌&&◌}
use mathlib.Core.List.{List, [], ◌∷◌}
use mathlib.Core.Path.{◌≡◌, refl, sym, ap, subst, ◌∙◌}
use mathlib.Core.Logic.{⊎_elim}
use native.Mathlib.Nat.{le_of_suc-le-suc, eq-or-lt_of_le, le_refl, zero-mul, add-mul}
use native.Mathlib.Numerals.{add-one}
use native.Mathlib.Omega.{arith}
use Rattle.boxes.specs.Sums.{sum, sum_over, only}

pub sum_ext : (n : ℕ) (f g : ℕ → ℕ) → ((c : ℕ) → c < n → f c ≡ g c) → sum n f ≡ sum n g
unfolding sum
sum_ext zero f g h = refl
sum_ext (suc n) f g h = omega (arith, sum_ext n f g (λ c l. h c (omega arith)), h n (omega arith))

pub sum-zero : (n : ℕ) → sum n (λ c. 0) ≡ 0
unfolding sum
sum-zero zero = refl
sum-zero (suc n) = omega (arith, sum-zero n)

pub sum-add : (n : ℕ) (f g : ℕ → ℕ) → sum n (λ c. f c + g c) ≡ sum n f + sum n g
unfolding sum
sum-add zero f g = refl
sum-add (suc n) f g = omega (arith, sum-add n f g)

pub sum-le : (n : ℕ) (f g : ℕ → ℕ) → ((c : ℕ) → c < n → f c ≤ g c) → sum n f ≤ sum n g
unfolding sum
sum-le zero f g h = omega arith
sum-le (suc n) f g h = omega (arith, sum-le n f g (λ c l. h c (omega arith)), h n (omega arith))

-- one term is at most the sum
pub sum_term : (n : ℕ) (f : ℕ → ℕ) (k : ℕ) → k < n → f k ≤ sum n f
unfolding sum
sum_term zero f k l = absurd (omega arith)
sum_term (suc n) f k l =
    ⊎_elim
    (λ (q : k ≡ n). omega (arith, ap f q))
    (λ (q : k < n). omega (arith, sum_term n f k q))
    (eq-or-lt_of_le (le_of_suc-le-suc l))

pub sum-mul : (n : ℕ) (f : ℕ → ℕ) (x : ℕ) → sum n (λ c. f c * x) ≡ sum n f * x
unfolding sum
sum-mul zero f x = sym (zero-mul x)
sum-mul (suc n) f x = omega (arith, sum-mul n f x, add-mul (sum n f) (f n) x)

pub sum_ones : (n : ℕ) → sum n (λ c. 1) ≡ n
unfolding sum
sum_ones zero = refl
sum_ones (suc n) = omega (arith, sum_ones n)

-- g is f but for d more at k
pub sum_change : (n : ℕ) (f g : ℕ → ℕ) (k d : ℕ) → k < n → ((c : ℕ) → c < n → (c ≡ k → ⊥) → g c ≡ f c) → g k ≡ f k + d → sum n g ≡ sum n f + d
unfolding sum
sum_change zero f g k d l h e = absurd (omega arith)
sum_change (suc n) f g k d l h e =
    ⊎_elim
    (λ (q : k ≡ n). omega (arith, sum_ext n g f (λ c lc. h c (omega arith) (λ w. omega arith)), subst (λ (x : ℕ). g x ≡ f x + d) q e))
    (λ (q : k < n). omega (arith, sum_change n f g k d q (λ c lc. h c (omega arith)) e, h n (omega arith) (λ w. omega arith)))
    (eq-or-lt_of_le (le_of_suc-le-suc l))

-- the even numbers below n * 2, and the odd ones
pub sum_pairs : (n : ℕ) (f : ℕ → ℕ) → sum (n * 2) f ≡ sum n (λ c. f (c * 2)) + sum n (λ c. f (c * 2 + 1))
unfolding sum
sum_pairs zero f = refl
sum_pairs (suc n) f =
    let e : suc n * 2 ≡ suc (suc (n * 2)) = omega arith in
    ap (λ (k : ℕ). sum k f) e ∙ (omega (arith, sum_pairs n f, ap f (add-one (n * 2))))

-- the numbers below n, and k more
pub sum_split : (n k : ℕ) (f : ℕ → ℕ) → sum (n + k) f ≡ sum n f + sum k (λ c. f (n + c))
unfolding sum
sum_split n zero f = let e : n + 0 ≡ n = omega arith in ap (λ (x : ℕ). sum x f) e ∙ omega arith
sum_split n (suc k) f =
    let e : n + suc k ≡ suc (n + k) = omega arith in
    ap (λ (x : ℕ). sum x f) e ∙ omega (arith, sum_split n k f)

-- exchange: what each member of a list gives to each number, added up either way
pub sum_exchange : (n : ℕ) (l : List ℕ) (f : ℕ → ℕ → ℕ) → sum_over l (λ b. sum n (f b)) ≡ sum n (λ c. sum_over l (λ b. f b c))
unfolding sum_over
sum_exchange n [] f = sym (sum-zero n)
sum_exchange n (b ∷ l) f = omega (arith, sum_exchange n l f, sum-add n (f b) (λ c. sum_over l (λ a. f a c)))

-- a test in front of a term

pub only_zero : (a : Bool) → only a 0 ≡ 0
only_zero true = refl
only_zero false = refl

pub only-and : (a e : Bool) (x : ℕ) → only (a && e) x ≡ only a (only e x)
only-and true e x = refl
only-and false e x = refl

pub only-le : (a : Bool) (x : ℕ) → only a x ≤ x
only-le true x = le_refl x
only-le false x = zero-le

pub only_mono : (a : Bool) {x y : ℕ} → x ≤ y → only a x ≤ only a y
only_mono true h = h
only_mono false h = zero-le

pub only_plus : (a : Bool) (x y d : ℕ) → y ≡ x + d → only a y ≡ only a x + only a d
only_plus true x y d e = e
only_plus false x y d e = refl

pub sum-only : (n : ℕ) (a : Bool) (f : ℕ → ℕ) → sum n (λ c. only a (f c)) ≡ only a (sum n f)
sum-only n true f = refl
sum-only n false f = sum-zero n

pub only_times : (a : Bool) (x : ℕ) → only a x ≡ only a 1 * x
only_times true x = omega arith
only_times false x = sym (zero-mul x)
