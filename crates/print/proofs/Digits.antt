-- The recursion of `decimal`, freed of its bound, and how long the texts are.
use Prim.Native.Nat.{ℕ, zero, suc, ◌+◌, ◌*◌, ◌/◌, ◌%◌, ◌^◌, ◌≤◌, ◌<◌}
use mathlib.Core.Path.{◌≡◌, refl, sym, ap, ◌∙◌}
use mathlib.Core.List.{List, [], ◌∷◌, ◌++◌, append_assoc}
use native.Mathlib.Nat.{pow-suc, pow-zero}
use native.Mathlib.Omega.{arith}
use lib.Dec.{ltb}
use lib.ListN.{length, get_or, length-append, get_or-append}
use lib.Seq.{get_or_at}
use borrow.Author.Tests.{ltb-true, ltb-false, lt-ltb, le-ltb}
use Rattle.ground.specs.Figures.{figures}
use Rattle.ground.proofs.Cases.{if, below_or}
use Rattle.print.specs.Texts.{decimal_in, decimal, clock, sign, pattern}

in_small : (k n : ℕ) → n < 10 → decimal_in k n ≡ (48 + n) ∷ []
unfolding decimal_in
in_small zero n h = refl
in_small (suc k) n h = rw (lt-ltb n 10 h)

in_step : (k n : ℕ) → 10 ≤ n → decimal_in (suc k) n ≡ decimal_in k (n / 10) ++ (48 + n % 10) ∷ []
unfolding decimal_in
in_step k n h = rw (le-ltb n 10 h)

-- any bound that is large enough will do
same_bound : (k j n : ℕ) → n ≤ k → n ≤ j → decimal_in k n ≡ decimal_in j n
same_bound zero j n h l = in_small zero n (omega arith) ∙ sym (in_small j n (omega arith))
same_bound (suc k) zero n h l = in_small (suc k) n (omega arith) ∙ sym (in_small zero n (omega arith))
same_bound (suc k) (suc j) n h l =
    if (ltb n 10)
    (λ e. let q = ltb-true n 10 e in in_small (suc k) n q ∙ sym (in_small (suc j) n q))
    (λ e.
    let q = ltb-false n 10 e in
    in_step k n q ∙ ap (λ (x : List ℕ). x ++ (48 + n % 10) ∷ []) (same_bound k j (n / 10) (omega arith) (omega arith)) ∙ sym (in_step j n q))

pub decimal_small : (n : ℕ) → n < 10 → decimal n ≡ (48 + n) ∷ []
unfolding decimal
decimal_small n h = in_small n n h

pub decimal_step : (n : ℕ) → 10 ≤ n → decimal n ≡ decimal (n / 10) ++ (48 + n % 10) ∷ []
unfolding decimal
decimal_step zero h = absurd (omega arith)
decimal_step (suc k) h =
    in_step k (suc k) h ∙ ap (λ (x : List ℕ). x ++ (48 + suc k % 10) ∷ []) (same_bound k (suc k / 10) (suc k / 10) (omega arith) (omega arith))

-- a digit behind a number
pub decimal_grows : (k d : ℕ) → 0 < k → d < 10 → decimal (k * 10 + d) ≡ decimal k ++ (48 + d) ∷ []
decimal_grows k d h l =
    let q : (k * 10 + d) / 10 ≡ k = omega arith in
    let r : (k * 10 + d) % 10 ≡ d = omega arith in
    decimal_step (k * 10 + d) (omega arith) ∙ rw (q, r)

pub decimal_more : (n : ℕ) → 10 ≤ n → length (decimal n) ≡ length (decimal (n / 10)) + 1
decimal_more n h = ap length (decimal_step n h) ∙ length-append (decimal (n / 10)) ((48 + n % 10) ∷ [])

-- a number below 10^k has at most k digits
pub decimal-length : (k n : ℕ) → 1 ≤ k → n < 10 ^ k → length (decimal n) ≤ k
decimal-length zero n h l = absurd (omega arith)
decimal-length (suc zero) n h l = omega (arith, pow-suc 10 0, pow-zero 10, ap length (decimal_small n (omega (arith, pow-suc 10 0, pow-zero 10))))
decimal-length (suc (suc k)) n h l =
    if (ltb n 10) (λ e. omega (arith, ap length (decimal_small n (ltb-true n 10 e))))
    (λ e. omega (arith, decimal_more n (ltb-false n 10 e), decimal-length (suc k) (n / 10) (omega arith) (omega (arith, pow-suc 10 (suc k)))))

-- a number below 100 in two digits
pub two_digits : (n : ℕ) → n < 100 → figures 10 2 n ≡ (48 + n / 10) ∷ (48 + n % 10) ∷ []
unfolding figures
two_digits n h = let e : n / 10 % 10 ≡ n / 10 = omega arith in ap (λ (a : ℕ). (48 + a) ∷ (48 + n % 10) ∷ []) e

pub clock_parts : (s : ℕ) → decimal (s / 60) ++ 58 ∷ [] ++ figures 10 2 (s % 60) ≡ clock s
unfolding clock
clock_parts s = append_assoc (decimal (s / 60)) (58 ∷ []) (figures 10 2 (s % 60)) ∙ ap (λ (l : List ℕ). decimal (s / 60) ++ 58 ∷ l) (two_digits (s % 60) (omega arith))

pub clock-length : (s : ℕ) → length (clock s) ≡ length (decimal (s / 60)) + 3
unfolding clock
clock-length s = length-append (decimal (s / 60)) (58 ∷ (48 + s % 60 / 10) ∷ (48 + s % 60 % 10) ∷ [])

pub pattern-length : (m b : ℕ) → length (pattern m b) ≡ m
unfolding pattern
pattern-length zero b = refl
pattern-length (suc m) b = omega (arith, length-append (pattern m (b / 3)) (sign (b % 3) ∷ []), pattern-length m (b / 3))

-- a sign behind a pattern
pub pattern_grows : (m b d : ℕ) → d < 3 → pattern (suc m) (b * 3 + d) ≡ pattern m b ++ sign d ∷ []
unfolding pattern
pattern_grows m b d l =
    let q : (b * 3 + d) / 3 ≡ b = omega arith in
    let r : (b * 3 + d) % 3 ≡ d = omega arith in
    rw (q, r)

-- each character is a sign
pub pattern-sign : (m b i : ℕ) → i < m → (d : ℕ) × (d < 3) × (get_or (pattern m b) i 0 ≡ sign d)
unfolding pattern
pattern-sign zero b i h = absurd (omega arith)
pattern-sign (suc m) b i h =
    let w = pattern m (b / 3) in
    let s = sign (b % 3) ∷ [] in
    let l = pattern-length m (b / 3) in
    below_or i m
    (λ k. let r = pattern-sign m (b / 3) i k in (r.0, r.1, get_or-append w s 0 i (omega arith) ∙ r.2))
    (λ k. (b % 3, omega arith, get_or_at w (sign (b % 3)) [] 0 i (omega arith)))

-- 64 bits: at most 20 digits, and 21 bytes of a time
pub number_room : (n : ℕ) → n < 2 ^ 64 → length (decimal n) ≤ 20
number_room n h = decimal-length 20 n (omega arith) (omega arith)

pub time_room : (s : ℕ) → s < 2 ^ 64 → length (clock s) ≤ 21
time_room s h = omega (arith, clock-length s, decimal-length 18 (s / 60) (omega arith) (omega arith))
