-- Listed combinations: how long the list is, what it depends on, and how it grows at the next one that the test takes.
use Prim.Native.Nat.{ℕ, zero, suc, ◌+◌, ◌*◌, ◌≤◌, ◌<◌}
use mathlib.Core.Path.{◌≡◌, refl, ap, ap₂, ◌∙◌}
use mathlib.Core.Bool.{Bool, true, false, cond}
use mathlib.Core.List.{List, [], ◌∷◌, ◌++◌, append-nil}
use native.Mathlib.Numerals.{add-one}
use native.Mathlib.Omega.{arith}
use lib.ListN.{length, length-append}
use Rattle.boxes.specs.Sums.{sum, only}
use Rattle.ground.proofs.Cases.{below_or}
use Rattle.boxes.proofs.Sums.{sum-le, sum_ones, only-le}
use Rattle.stored.specs.Form.{listed}

-- how many below n the test takes
abbrev pub count : (ℕ → Bool) → ℕ → ℕ
count p n = sum n (λ c. only (p c) 1)

pub count_le : (p : ℕ → Bool) (n : ℕ) → count p n ≤ n
count_le p n = omega (arith, sum-le n (λ c. only (p c) 1) (λ c. 1) (λ c l. only-le (p c) 1), sum_ones n)

piece_length : (b : Bool) (x : List ℕ) (k : ℕ) → length x ≡ k → length (cond b x []) ≡ only b 1 * k
piece_length true x k e = e ∙ omega arith
piece_length false x k e = omega arith

pub listed-length : (p : ℕ → Bool) (f : ℕ → List ℕ) (k n : ℕ) → ((c : ℕ) → length (f c) ≡ k) → length (listed p f n) ≡ count p n * k
unfolding listed sum
listed-length p f k zero e = omega arith
listed-length p f k (suc n) e =
    omega (arith, length-append (listed p f n) (cond (p n) (f n) []), listed-length p f k n e, piece_length (p n) (f n) k (e n))

pub listed_ext : (p q : ℕ → Bool) (f g : ℕ → List ℕ) (n : ℕ) → ((c : ℕ) → c < n → p c ≡ q c) → ((c : ℕ) → c < n → f c ≡ g c) → listed p f n ≡ listed q g n
unfolding listed
listed_ext p q f g zero h k = refl
listed_ext p q f g (suc n) h k =
    ap₂ (λ (x y : List ℕ). x ++ y) (listed_ext p q f g n (λ c l. h c (omega arith)) (λ c l. k c (omega arith)))
    (ap₂ (λ (b : Bool) (x : List ℕ). cond b x []) (h n (omega arith)) (k n (omega arith)))

-- nothing is listed where the test takes nothing
pub listed_skip : (p : ℕ → Bool) (f : ℕ → List ℕ) (low n : ℕ) → low ≤ n → ((c : ℕ) → low ≤ c → p c ≡ false) → listed p f n ≡ listed p f low
unfolding listed
listed_skip p f low zero h z = let e : 0 ≡ low = omega arith in ap (listed p f) e
listed_skip p f low (suc n) h z =
    below_or n low
    (λ l. let e : suc n ≡ low = omega arith in ap (listed p f) e)
    (λ l. ap (λ (b : Bool). listed p f n ++ cond b (f n) []) (z n l) ∙ append-nil (listed p f n) ∙ listed_skip p f low n l z)

listed_next : (p : ℕ → Bool) (f : ℕ → List ℕ) (c : ℕ) → p c ≡ true → listed p f (c + 1) ≡ listed p f c ++ f c
unfolding listed
listed_next p f c e = ap (listed p f) (add-one c) ∙ ap (λ (b : Bool). listed p f c ++ cond b (f c) []) e

-- each written by one byte, they are as many as their bytes
abbrev alone : ℕ → List ℕ
alone c = c ∷ []

-- q takes c besides what p takes, which is nothing from `low` on
module _ (p q : ℕ → Bool) (low c : ℕ) (h : low ≤ c) (z : (x : ℕ) → low ≤ x → p x ≡ false) (same : (x : ℕ) → x < c → q x ≡ p x) (takes : q c ≡ true) where
  pub listed_take : (f g : ℕ → List ℕ) → ((x : ℕ) → x < c → g x ≡ f x) → listed q g (c + 1) ≡ listed p f low ++ g c
  listed_take f g e =
      listed_next q g c takes ∙ ap (λ (x : List ℕ). x ++ g c) (listed_ext q p g f c same e ∙ listed_skip p f low c h z)

  pub count_take : count q (c + 1) ≡ count p low + 1
  count_take =
      let e = ap length (listed_take alone alone (λ x l. refl)) in
      omega (arith, e, length-append (listed p alone low) (alone c), listed-length q alone 1 (c + 1) (λ x. refl), listed-length p alone 1 low (λ x. refl))

pub count_skip : (p : ℕ → Bool) (low n : ℕ) → low ≤ n → ((c : ℕ) → low ≤ c → p c ≡ false) → count p n ≡ count p low
count_skip p low n h z =
    omega (arith, ap length (listed_skip p alone low n h z), listed-length p alone 1 n (λ x. refl), listed-length p alone 1 low (λ x. refl))
