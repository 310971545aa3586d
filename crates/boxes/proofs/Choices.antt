-- The boxes that contain a combination c are those through c, one for each set t of free marks below 2^m, and their numbers rise with t.
-- Each law is an induction on the marks; digits are written with max and / so that omega sees through them.
use Prim.Native.Nat.{ℕ, zero, suc, ◌+◌, ◌*◌, ◌-◌, ◌/◌, ◌%◌, ◌^◌, ◌<◌, ◌≤◌, max}
use mathlib.Core.Bool.{Bool, true, ◌&&◌}
use mathlib.Core.Path.{◌≡◌, refl, sym, ◌∙◌, ap, ap₂}
use native.Mathlib.Nat.{pow-suc, mul_comm, mul_assoc, div-one, div-div-eq-div-mul, div-add-mod'}
use native.Mathlib.Decide.{le_ind}
use native.Mathlib.Omega.{arith}
use lib.Dec.{eqb, lit<}
use lib.Bits.{bit_or, or_step}
use lib.Count.{ones, ones_step}
use lib.Pow.{pow_mono}
use borrow.Author.Tests.{eq-eqb, ne_eqb, eqb-true}
use Rattle.boxes.specs.Boxes.{agrees, contains, sum_in, free_count, lowest, through, single}
use Rattle.boxes.specs.Sums.{only}
use Rattle.ground.proofs.Cases.{below_or, same_or, mark, digit, and_left, and_right, eqb_pair}
use Rattle.boxes.proofs.Sums.{sum_change, sum-zero}
use Rattle.boxes.proofs.Numbers.{boxes_mono}

-- the free marks of b, as a set of marks: mark i is in it exactly if digit i is 2
unfoldable pub free_marks : ℕ → ℕ → ℕ
free_marks zero b = 0
free_marks (suc m) b = free_marks m (b / 3) * 2 + b % 3 / 2

-- digits and the rest of a box through c

through_digit : (m c t : ℕ) → through (suc m) c t % 3 ≡ max (c % 2) (t % 2 * 2)
unfolding through
through_digit m c t = omega arith

through_rest : (m c t : ℕ) → through (suc m) c t / 3 ≡ through m (c / 2) (t / 2)
unfolding through
through_rest m c t = omega arith

-- it is a box

pub through-lt : (m c t : ℕ) → through m c t < 3 ^ m
unfolding through
through-lt zero c t = lit< tt
through-lt (suc m) c t = omega (arith, pow-suc 3 m, through-lt m (c / 2) (t / 2))

pub free_marks_lt : (m b : ℕ) → free_marks m b < 2 ^ m
unfolding free_marks
free_marks_lt zero b = lit< tt
free_marks_lt (suc m) b = omega (arith, pow-suc 2 m, free_marks_lt m (b / 3))

-- that contains c, and has the free marks t

through-agrees : (v f : ℕ) → v < 2 → f < 2 → agrees (max v (f * 2)) v ≡ true
unfolding agrees
through-agrees v f hv hf =
    mark (λ (x : ℕ). agrees (max x (f * 2)) x ≡ true) v hv
    (mark (λ (y : ℕ). agrees (max 0 (y * 2)) 0 ≡ true) f hf refl refl)
    (mark (λ (y : ℕ). agrees (max 1 (y * 2)) 1 ≡ true) f hf refl refl)

pub through-contains : (m c t : ℕ) → c < 2 ^ m → contains m (through m c t) c ≡ true
unfolding contains
through-contains zero c t l = unfold through in eq-eqb c 0 (omega arith)
through-contains (suc m) c t l =
    rw (through_digit m c t, through_rest m c t, through-agrees (c % 2) (t % 2) (omega arith) (omega arith))
    (through-contains m (c / 2) (t / 2) (omega (arith, pow-suc 2 m)))

pub free_marks_through : (m c t : ℕ) → t < 2 ^ m → free_marks m (through m c t) ≡ t
unfolding free_marks
free_marks_through zero c t l = omega arith
free_marks_through (suc m) c t l =
    rw (through_digit m c t, through_rest m c t, free_marks_through m (c / 2) (t / 2) (omega (arith, pow-suc 2 m))) (omega arith)

-- every box that contains c is one of them

-- the digit that lets the mark v through is made of v and whether it is free
pub free_digit : (d v : ℕ) → d < 3 → v < 2 → agrees d v ≡ true → max v (d / 2 * 2) ≡ d
unfolding agrees
free_digit zero v h g e = omega (arith, eqb-true 0 v e)
free_digit (suc zero) v h g e = omega (arith, eqb-true 1 v e)
free_digit (suc (suc zero)) v h g e = omega arith
free_digit (suc (suc (suc d))) v h g e = absurd (omega arith)

pub through_free : (m b c : ℕ) → contains m b c ≡ true → through m c (free_marks m b) ≡ b
unfolding through free_marks contains
through_free zero b c e = sym (eqb-true b 0 (and_left (eqb b 0) (eqb c 0) e))
through_free (suc m) b c e =
    let f = free_marks m (b / 3) in
    let r : (f * 2 + b % 3 / 2) / 2 ≡ f = omega arith in
    let v : (f * 2 + b % 3 / 2) % 2 ≡ b % 3 / 2 = omega arith in
    let d = free_digit (b % 3) (c % 2) (omega arith) (omega arith) (and_left _ _ e) in
    let i = through_free m (b / 3) (c / 2) (and_right (agrees (b % 3) (c % 2)) _ e) in
    rw (r, v, i, d) (omega arith)

-- their numbers rise

pub through_rises : (m c t u : ℕ) → t < u → u < 2 ^ m → through m c t < through m c u
unfolding through
through_rises zero c t u h g = absurd (omega arith)
through_rises (suc m) c t u h g =
    let p = pow-suc 2 m in
    below_or (t / 2) (u / 2)
    (λ q. let i = through_rises m (c / 2) (t / 2) (u / 2) q (omega arith) in omega arith)
    (λ q.
    let e : t / 2 ≡ u / 2 = omega arith in
    let i : through m (c / 2) (t / 2) ≡ through m (c / 2) (u / 2) = ap (through m (c / 2)) e in
    omega arith)

-- how many marks are free

pub free_count_ones : (m b : ℕ) → free_count m b ≡ ones (free_marks m b)
unfolding free_count free_marks ones
free_count_ones zero b = refl
free_count_ones (suc m) b =
    let f = free_marks m (b / 3) in
    let r : (f * 2 + b % 3 / 2) / 2 ≡ f = omega arith in
    let v : (f * 2 + b % 3 / 2) % 2 ≡ b % 3 / 2 = omega arith in
    let s : ones (f * 2 + b % 3 / 2) ≡ b % 3 / 2 + ones f = ones_step (f * 2 + b % 3 / 2) ∙ ap₂ (λ (x y : ℕ). x + ones y) v r in
    omega (arith, free_count_ones m (b / 3))

pub free_count-through : (m c t : ℕ) → t < 2 ^ m → free_count m (through m c t) ≡ ones t
free_count-through m c t l = free_count_ones m (through m c t) ∙ ap ones (free_marks_through m c t l)

-- a single box

agrees_mark : (u v : ℕ) → u < 2 → agrees u v ≡ eqb u v
unfolding agrees
agrees_mark zero v l = refl
agrees_mark (suc zero) v l = refl
agrees_mark (suc (suc u)) v l = absurd (omega arith)

pub single-contains : (m k c : ℕ) → k < 2 ^ m → contains m (single m k) c ≡ eqb k c
unfolding contains
single-contains zero k c l =
    unfold through in
    same_or c 0
    (λ (e : c ≡ 0). eq-eqb c 0 e ∙ sym (eq-eqb k c (omega arith)))
    (λ (n : c ≡ 0 → ⊥). ne_eqb c 0 n ∙ sym (ne_eqb k c (λ (w : k ≡ c). n (omega arith))))
single-contains (suc m) k c l =
    let d : through (suc m) k 0 % 3 ≡ k % 2 = through_digit m k 0 ∙ omega arith in
    let r : through (suc m) k 0 / 3 ≡ single m (k / 2) = through_rest m k 0 in
    ap₂ (λ (x y : ℕ). agrees x (c % 2) && contains m y (c / 2)) d r
    ∙ ap₂ (λ (x y : Bool). x && y) (agrees_mark (k % 2) (c % 2) (omega arith)) (single-contains m (k / 2) (c / 2) (omega (arith, pow-suc 2 m)))
    ∙ sym (eqb_pair (k / 2) (c / 2) (k % 2) (c % 2) (omega arith) (omega arith))
    ∙ ap₂ eqb (div-add-mod' k 2) (div-add-mod' c 2)

pub sum_in-single : (m c : ℕ) (f : ℕ → ℕ) → c < 2 ^ m → sum_in m (single m c) f ≡ f c
unfolding sum_in
sum_in-single m c f l =
    let at : (x : ℕ) → only (contains m (single m c) x) (f x) ≡ only (eqb c x) (f x) =
    λ x. ap (λ (t : Bool). only t (f x)) (single-contains m c x l) in
    sum_change (2 ^ m) (λ x. 0) (λ x. only (contains m (single m c) x) (f x)) c (f c) l
    (λ x lx n. at x ∙ ap (λ (t : Bool). only t (f x)) (ne_eqb c x (λ (w : c ≡ x). n (sym w))))
    (at c ∙ rw (eq-eqb c c refl) (omega arith))
    ∙ omega (arith, sum-zero (2 ^ m))

-- the lowest combination of a box is in it, and below all others in it

lowest-agrees : (d : ℕ) → d < 3 → agrees d (d % 2) ≡ true
unfolding agrees
lowest-agrees d l = digit (λ (x : ℕ). agrees x (x % 2) ≡ true) d l refl refl refl

pub lowest_contained : (m b : ℕ) → b < 3 ^ m → contains m b (lowest m b) ≡ true
unfolding contains lowest
lowest_contained zero b l = rw (eq-eqb b 0 (omega arith))
lowest_contained (suc m) b l =
    let k = lowest m (b / 3) in
    let r : (k * 2 + b % 3 % 2) / 2 ≡ k = omega arith in
    let v : (k * 2 + b % 3 % 2) % 2 ≡ b % 3 % 2 = omega arith in
    rw (r, v, lowest-agrees (b % 3) (omega arith)) (lowest_contained m (b / 3) (omega (arith, pow-suc 3 m)))

on_digit : (d v : ℕ) → d < 3 → agrees d v ≡ true → d % 2 ≤ v
unfolding agrees
on_digit zero v h e = omega arith
on_digit (suc zero) v h e = omega (arith, eqb-true 1 v e)
on_digit (suc (suc zero)) v h e = omega arith
on_digit (suc (suc (suc d))) v h e = absurd (omega arith)

pub lowest-least : (m b c : ℕ) → contains m b c ≡ true → lowest m b ≤ c
unfolding contains lowest
lowest-least zero b c e = omega arith
lowest-least (suc m) b c e =
    let d = on_digit (b % 3) (c % 2) (omega arith) (and_left _ _ e) in
    omega (arith, lowest-least m (b / 3) (c / 2) (and_right (agrees (b % 3) (c % 2)) _ e))

-- the number of the box through c: digit i is 1 + 1 at a mark of t, and c's own mark elsewhere
pub through-or : (m c t : ℕ) → through m c t ≡ single m (bit_or c t) + single m t
unfolding through
through-or zero c t = refl
through-or (suc m) c t =
    let o = or_step c t in
    let h : bit_or c t / 2 ≡ bit_or (c / 2) (t / 2) = omega arith in
    let v : bit_or c t % 2 ≡ max (c % 2) (t % 2) = omega arith in
    rw (h, v, through-or m (c / 2) (t / 2)) (omega arith)

-- one mark more free, above those that are: the digit there is 2 in place of c's own mark
pub through_more : (m c i t : ℕ) → i < m → t < 2 ^ i → through m c (2 ^ i + t) ≡ through m c t + (2 - c / 2 ^ i % 2) * 3 ^ i
unfolding through
through_more zero c i t l h = absurd (omega arith)
through_more (suc m) c zero t l h =
    let e : t ≡ 0 = omega arith in
    rw (e, div-one c) (omega arith)
through_more (suc m) c (suc i) t l h =
    let p = pow-suc 2 i in
    let q : (2 ^ suc i + t) / 2 ≡ 2 ^ i + t / 2 = omega arith in
    let v : (2 ^ suc i + t) % 2 ≡ t % 2 = omega arith in
    let k : c / 2 / 2 ^ i ≡ c / 2 ^ suc i = div-div-eq-div-mul c 2 (2 ^ i) ∙ ap (λ (n : ℕ). c / n) (mul_comm 2 (2 ^ i) ∙ sym p) in
    let w : (2 - c / 2 / 2 ^ i % 2) * 3 ^ i * 3 ≡ (2 - c / 2 ^ suc i % 2) * 3 ^ suc i =
    ap (λ (n : ℕ). (2 - n % 2) * 3 ^ i * 3) k ∙ mul_assoc (2 - c / 2 ^ suc i % 2) (3 ^ i) 3 ∙ ap (λ (n : ℕ). (2 - c / 2 ^ suc i % 2) * n) (sym (pow-suc 3 i)) in
    let r = through_more m (c / 2) i (t / 2) (omega arith) (omega arith) in
    rw (q, v, r) (omega (arith, w))

-- over more marks it is the same box

through_up : (m c t : ℕ) → c < 2 ^ m → t < 2 ^ m → through (suc m) c t ≡ through m c t
unfolding through
through_up zero c t hc ht = omega arith
through_up (suc m) c t hc ht =
    let p = pow-suc 2 m in
    ap (λ (n : ℕ). n * 3 + max (c % 2) (t % 2 * 2)) (through_up m (c / 2) (t / 2) (omega arith) (omega arith))

pub through_wide : (m n c t : ℕ) → m ≤ n → c < 2 ^ m → t < 2 ^ m → through n c t ≡ through m c t
through_wide m n c t h hc ht =
    le_ind (λ (j : ℕ). through j c t ≡ through m c t) refl
    (λ j g e. let q : 2 ^ m ≤ 2 ^ j = pow_mono g in through_up j c t (omega arith) (omega arith) ∙ e) n h

agrees-zero : (v : ℕ) → agrees 0 v ≡ eqb v 0
unfolding agrees
agrees-zero zero = refl
agrees-zero (suc v) = ne_eqb 0 (suc v) (λ (w : 0 ≡ suc v). omega arith) ∙ sym (ne_eqb (suc v) 0 (λ (w : suc v ≡ 0). omega arith))

contains_up : (m b c : ℕ) → b < 3 ^ m → contains (suc m) b c ≡ contains m b c
unfolding contains
contains_up zero b c l =
    let z : b ≡ 0 = omega arith in
    ap (λ (x : ℕ). contains 1 x c) z
    ∙ (ap (λ (t : Bool). t && eqb (c / 2) 0) (agrees-zero (c % 2)) ∙ sym (eqb_pair (c / 2) 0 (c % 2) 0 (omega arith) (omega arith)) ∙ ap (λ (n : ℕ). eqb n 0) (div-add-mod' c 2))
    ∙ ap (λ (x : ℕ). contains 0 x c) (sym z)
contains_up (suc m) b c l = ap (λ (t : Bool). agrees (b % 3) (c % 2) && t) (contains_up m (b / 3) (c / 2) (omega (arith, pow-suc 3 m)))

-- and contains the same combinations
pub contains_wide : (m n b c : ℕ) → m ≤ n → b < 3 ^ m → contains n b c ≡ contains m b c
contains_wide m n b c h l =
    le_ind (λ (j : ℕ). contains j b c ≡ contains m b c) refl
    (λ j g e. let q : 3 ^ m ≤ 3 ^ j = boxes_mono g in contains_up j b c (omega arith) ∙ e) n h
