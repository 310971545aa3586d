-- The highest mark apart: over one mark more, a box is a digit d at the highest mark and a box below, a combination a mark v and one below.
use Prim.Native.Nat.{ℕ, zero, suc, ◌+◌, ◌*◌, ◌/◌, ◌%◌, ◌^◌, ◌<◌, max}
use mathlib.Core.Bool.{Bool, true, false, ◌&&◌}
use mathlib.Core.Path.{◌≡◌, refl, sym, ◌∙◌, ap, ap₂}
use native.Mathlib.Nat.{pow-suc, mul_assoc, zero-mul}
use native.Mathlib.Omega.{arith}
use Rattle.boxes.specs.Sums.{sum, only}
use Rattle.boxes.specs.Boxes.{agrees, contains, sum_in, through, single}
use Rattle.boxes.proofs.Sums.{sum_ext, sum-only, sum_split, only-and}

and_swap : (a x y : Bool) → (a && (x && y)) ≡ (x && (a && y))
and_swap true true y = refl
and_swap true false y = refl
and_swap false true y = refl
and_swap false false y = refl

pub contains_top : (m d v b c : ℕ) → d < 3 → v < 2 → b < 3 ^ m → c < 2 ^ m → contains (suc m) (d * 3 ^ m + b) (v * 2 ^ m + c) ≡ (agrees d v && contains m b c)
unfolding contains
contains_top zero d v b c hd hv hb hc =
    let bz : (d * 3 ^ 0 + b) % 3 ≡ d = omega arith in
    let cz : (v * 2 ^ 0 + c) % 2 ≡ v = omega arith in
    let b0 : (d * 3 ^ 0 + b) / 3 ≡ b = omega arith in
    let c0 : (v * 2 ^ 0 + c) / 2 ≡ c = omega arith in
    rw (bz, cz, b0, c0)
contains_top (suc m) d v b c hd hv hb hc =
    let p = pow-suc 3 m in
    let q = pow-suc 2 m in
    let db : d * 3 ^ suc m ≡ d * 3 ^ m * 3 = ap (λ (n : ℕ). d * n) p ∙ sym (mul_assoc d (3 ^ m) 3) in
    let vc : v * 2 ^ suc m ≡ v * 2 ^ m * 2 = ap (λ (n : ℕ). v * n) q ∙ sym (mul_assoc v (2 ^ m) 2) in
    let bd : (d * 3 ^ suc m + b) % 3 ≡ b % 3 = omega arith in
    let bq : (d * 3 ^ suc m + b) / 3 ≡ d * 3 ^ m + b / 3 = omega arith in
    let cd : (v * 2 ^ suc m + c) % 2 ≡ c % 2 = omega arith in
    let cq : (v * 2 ^ suc m + c) / 2 ≡ v * 2 ^ m + c / 2 = omega arith in
    ap₂ (λ (x y : ℕ). agrees x y && contains (suc m) ((d * 3 ^ suc m + b) / 3) ((v * 2 ^ suc m + c) / 2)) bd cd
    ∙ ap₂ (λ (x y : ℕ). agrees (b % 3) (c % 2) && contains (suc m) x y) bq cq
    ∙ ap (λ (t : Bool). agrees (b % 3) (c % 2) && t) (contains_top m d v (b / 3) (c / 2) hd hv (omega arith) (omega arith))
    ∙ and_swap (agrees (b % 3) (c % 2)) (agrees d v) (contains m (b / 3) (c / 2))

-- one half of the combinations of a box, those with the highest mark v: n are below
half_top : (m d v b : ℕ) (f : ℕ → ℕ) → d < 3 → v < 2 → b < 3 ^ m
    → sum (2 ^ m) (λ c. only (contains (suc m) (d * 3 ^ m + b) (v * 2 ^ m + c)) (f (v * 2 ^ m + c))) ≡ only (agrees d v) (sum_in m b (λ c. f (v * 2 ^ m + c)))
unfolding sum_in
half_top m d v b f hd hv hb =
    sum_ext (2 ^ m) _ _ (λ c l. ap (λ (t : Bool). only t (f (v * 2 ^ m + c))) (contains_top m d v b c hd hv hb l) ∙ only-and (agrees d v) (contains m b c) (f (v * 2 ^ m + c)))
    ∙ sum-only (2 ^ m) (agrees d v) (λ c. only (contains m b c) (f (v * 2 ^ m + c)))

pub sum_in_top : (m d b : ℕ) (f : ℕ → ℕ) → d < 3 → b < 3 ^ m
    → sum_in (suc m) (d * 3 ^ m + b) f ≡ only (agrees d 0) (sum_in m b f) + only (agrees d 1) (sum_in m b (λ c. f (2 ^ m + c)))
unfolding sum_in
sum_in_top m d b f hd hb =
    let n : 2 ^ suc m ≡ 2 ^ m + 2 ^ m = pow-suc 2 m ∙ omega arith in
    let X = d * 3 ^ m + b in
    let zero_is : (c : ℕ) → 0 * 2 ^ m + c ≡ c = λ c. omega (arith, zero-mul (2 ^ m)) in
    let one-is : (c : ℕ) → 1 * 2 ^ m + c ≡ 2 ^ m + c = λ c. omega arith in
    let low = sum_ext (2 ^ m) (λ c. only (contains (suc m) X c) (f c)) (λ c. only (contains (suc m) X (0 * 2 ^ m + c)) (f (0 * 2 ^ m + c)))
    (λ c l. ap (λ (x : ℕ). only (contains (suc m) X x) (f x)) (sym (zero_is c))) in
    let high = sum_ext (2 ^ m) (λ c. only (contains (suc m) X (2 ^ m + c)) (f (2 ^ m + c))) (λ c. only (contains (suc m) X (1 * 2 ^ m + c)) (f (1 * 2 ^ m + c)))
    (λ c l. ap (λ (x : ℕ). only (contains (suc m) X x) (f x)) (sym (one-is c))) in
    ap (λ (k : ℕ). sum k (λ c. only (contains (suc m) X c) (f c))) n
    ∙ sum_split (2 ^ m) (2 ^ m) (λ c. only (contains (suc m) X c) (f c))
    ∙ ap₂ (λ (x y : ℕ). x + y)
    (low ∙ half_top m d 0 b f hd (omega arith) hb ∙ ap (only (agrees d 0)) (sum_ext (2 ^ m) _ _ (λ c l. ap (λ (x : ℕ). only (contains m b c) (f x)) (zero_is c))))
    (high ∙ half_top m d 1 b f hd (omega arith) hb ∙ ap (only (agrees d 1)) (sum_ext (2 ^ m) _ _ (λ c l. ap (λ (x : ℕ). only (contains m b c) (f x)) (one-is c))))

-- by the highest digit: off, on and free

pub sum_in_off : (m b : ℕ) (f : ℕ → ℕ) → b < 3 ^ m → sum_in (suc m) b f ≡ sum_in m b f
unfolding agrees
sum_in_off m b f l = let e : b ≡ 0 * 3 ^ m + b = omega (arith, zero-mul (3 ^ m)) in ap (λ (x : ℕ). sum_in (suc m) x f) e ∙ sum_in_top m 0 b f (omega arith) l ∙ omega arith

pub sum_in_on : (m b : ℕ) (f : ℕ → ℕ) → b < 3 ^ m → sum_in (suc m) (3 ^ m + b) f ≡ sum_in m b (λ c. f (2 ^ m + c))
unfolding agrees
sum_in_on m b f l = let e : 3 ^ m + b ≡ 1 * 3 ^ m + b = omega arith in ap (λ (x : ℕ). sum_in (suc m) x f) e ∙ sum_in_top m 1 b f (omega arith) l ∙ omega arith

pub sum_in_free : (m b : ℕ) (f : ℕ → ℕ) → b < 3 ^ m → sum_in (suc m) (3 ^ m * 2 + b) f ≡ sum_in m b f + sum_in m b (λ c. f (2 ^ m + c))
unfolding agrees
sum_in_free m b f l = let e : 3 ^ m * 2 + b ≡ 2 * 3 ^ m + b = omega arith in ap (λ (x : ℕ). sum_in (suc m) x f) e ∙ sum_in_top m 2 b f (omega arith) l

-- the single box of a combination with the highest mark on
pub single_top : (m c : ℕ) → c < 2 ^ m → single (suc m) (2 ^ m + c) ≡ 3 ^ m + single m c
unfolding through
single_top zero c l = let e : c ≡ 0 = omega arith in ap (λ (x : ℕ). single 1 (1 + x)) e
single_top (suc m) c l =
    let p = pow-suc 2 m in
    let q = pow-suc 3 m in
    let h : (2 ^ suc m + c) / 2 ≡ 2 ^ m + c / 2 = omega arith in
    let v : (2 ^ suc m + c) % 2 ≡ c % 2 = omega arith in
    ap₂ (λ (x y : ℕ). single (suc m) x * 3 + max y (0 % 2 * 2)) h v ∙ omega (arith, single_top m (c / 2) (omega arith))
