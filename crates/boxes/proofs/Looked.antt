-- What is looked up: each table was computed over all its entries, and four marks and four more make eight.
use Prim.Native.Nat.{ℕ, zero, suc, ◌+◌, ◌*◌, ◌/◌, ◌%◌, ◌^◌, ◌<◌, ◌≤◌, max}
use mathlib.Core.Bool.{true}
use mathlib.Core.List.{List, [], ◌∷◌}
use mathlib.Core.Path.{◌≡◌, refl, sym, ◌∙◌, ap, ap₂}
use native.Mathlib.Nat.{pow-suc}
use native.Mathlib.Numerals.{add-one}
use native.Mathlib.Decide.{le_ind}
use native.Mathlib.Omega.{arith}
use lib.Arith.{mod-mul}
use lib.Dec.{eqb, lit<}
use lib.ListN.{get_or}
use lib.Pow.{pow_mono, mod-pow-add}
use borrow.Author.Tests.{eqb-true}
use Rattle.ground.specs.Every.{every}
use Rattle.ground.proofs.Every.{every_at}
use Rattle.boxes.specs.Boxes.{lowest, through, single}
use Rattle.boxes.proofs.Choices.{free_marks, free_marks_lt, through_wide}
use Rattle.boxes.proofs.Numbers.{boxes_mono}

abbrev pub fours : List ℕ
fours = 0 ∷ 1 ∷ 3 ∷ 4 ∷ 9 ∷ 10 ∷ 12 ∷ 13 ∷ 27 ∷ 28 ∷ 30 ∷ 31 ∷ 36 ∷ 37 ∷ 39 ∷ 40 ∷ []

-- the box of a combination of eight marks, looked up by its low four and its high four
abbrev pub looked : ℕ → ℕ
looked c = get_or fours (c % 16) 0 + get_or fours (c / 16) 0 * 81

fours_computed : every 256 (λ c. eqb (looked c) (single 8 c)) ≡ true
unfolding every through
fours_computed = refl

pub single_at : (m c : ℕ) → m ≤ 8 → c < 2 ^ m → looked c ≡ single m c
single_at m c h l =
    let p : 2 ^ m ≤ 2 ^ 8 = pow_mono h in
    eqb-true _ _ (every_at 256 (λ c. eqb (looked c) (single 8 c)) c fours_computed (omega arith)) ∙ through_wide m 8 c 0 h l (omega arith)

-- marks that the box does not have do not count
pub single_low : (m c : ℕ) → single m (c % 2 ^ m) ≡ single m c
unfolding through
single_low zero c = refl
single_low (suc m) c =
    let s : c % 2 ^ suc m ≡ c / 2 % 2 ^ m * 2 + c % 2 = ap (λ (n : ℕ). c % 2 ^ n) (sym (add-one m)) ∙ mod-pow-add c m 1 in
    let h : c % 2 ^ suc m / 2 ≡ c / 2 % 2 ^ m = omega arith in
    let v : c % 2 ^ suc m % 2 ≡ c % 2 = omega arith in
    ap₂ (λ (x y : ℕ). x * 3 + max y (0 % 2 * 2)) (ap (single m) h ∙ single_low m (c / 2)) v

-- ---- the masks of a box, looked up by its low four marks and its high four

-- a mark for each digit, as f says: with / 2 the free marks, with % 2 those that are to be on
unfoldable by : (ℕ → ℕ) → ℕ → ℕ → ℕ
by f zero b = 0
by f (suc m) b = by f m (b / 3) * 2 + f (b % 3)

free_by : (m b : ℕ) → by (λ d. d / 2) m b ≡ free_marks m b
unfolding by free_marks
free_by zero b = refl
free_by (suc m) b = ap (λ (n : ℕ). n * 2 + b % 3 / 2) (free_by m (b / 3))

on_by : (m b : ℕ) → by (λ d. d % 2) m b ≡ lowest m b
unfolding by lowest
on_by zero b = refl
on_by (suc m) b = ap (λ (n : ℕ). n * 2 + b % 3 % 2) (on_by m (b / 3))

-- marks above the box are off
by_up : (f : ℕ → ℕ) → f 0 ≡ 0 → (m b : ℕ) → b < 3 ^ m → by f (suc m) b ≡ by f m b
unfolding by
by_up f z zero b l = let e : b ≡ 0 = omega arith in omega (arith, ap (λ (n : ℕ). f (n % 3)) e ∙ z)
by_up f z (suc m) b l = ap (λ (n : ℕ). n * 2 + f (b % 3)) (by_up f z m (b / 3) (omega (arith, pow-suc 3 m)))

by_wide : (f : ℕ → ℕ) → f 0 ≡ 0 → (m n b : ℕ) → m ≤ n → b < 3 ^ m → by f n b ≡ by f m b
by_wide f z m n b h l =
    le_ind (λ (j : ℕ). by f j b ≡ by f m b) refl
    (λ j g e. let q : 3 ^ m ≤ 3 ^ j = boxes_mono g in by_up f z j b (omega arith) ∙ e) n h

-- eight marks are four and four
by_fours : (f : ℕ → ℕ) (b : ℕ) → by f 8 b ≡ by f 4 (b / 81) * 16 + by f 4 (b % 81)
unfolding by
by_fours f b =
    let h : b / 81 ≡ b / 3 / 3 / 3 / 3 = omega arith in
    let s1 : b % 81 ≡ b / 3 % 27 * 3 + b % 3 = mod-mul b {m = 27} {c = 3} (lit< tt) (lit< tt) in
    let s2 : b / 3 % 27 ≡ b / 3 / 3 % 9 * 3 + b / 3 % 3 = mod-mul (b / 3) {m = 9} {c = 3} (lit< tt) (lit< tt) in
    let s3 : b / 3 / 3 % 9 ≡ b / 3 / 3 / 3 % 3 * 3 + b / 3 / 3 % 3 = mod-mul (b / 3 / 3) {m = 3} {c = 3} (lit< tt) (lit< tt) in
    let r0 : b % 81 % 3 ≡ b % 3 = omega arith in
    let q1 : b % 81 / 3 ≡ b / 3 % 27 = omega arith in
    let r1 : b / 3 % 27 % 3 ≡ b / 3 % 3 = omega arith in
    let q2 : b / 3 % 27 / 3 ≡ b / 3 / 3 % 9 = omega arith in
    let r2 : b / 3 / 3 % 9 % 3 ≡ b / 3 / 3 % 3 = omega arith in
    let q3 : b / 3 / 3 % 9 / 3 ≡ b / 3 / 3 / 3 % 3 = omega arith in
    let r3 : b / 3 / 3 / 3 % 3 % 3 ≡ b / 3 / 3 / 3 % 3 = omega arith in
    rw (h, q1, q2, q3, r0, r1, r2, r3) (omega arith)

abbrev pub marks : List ℕ
marks =
    0 ∷ 16 ∷ 1 ∷ 32 ∷ 48 ∷ 33 ∷ 2 ∷ 18 ∷ 3 ∷ 64 ∷ 80 ∷ 65 ∷ 96 ∷ 112 ∷ 97 ∷ 66 ∷ 82 ∷ 67 ∷ 4 ∷ 20 ∷ 5 ∷ 36 ∷ 52 ∷ 37 ∷ 6 ∷ 22 ∷ 7 ∷ 128 ∷ 144 ∷
    129 ∷ 160 ∷ 176 ∷ 161 ∷ 130 ∷ 146 ∷ 131 ∷ 192 ∷ 208 ∷ 193 ∷ 224 ∷ 240 ∷ 225 ∷ 194 ∷ 210 ∷ 195 ∷ 132 ∷ 148 ∷ 133 ∷ 164 ∷ 180 ∷ 165 ∷ 134 ∷
    150 ∷ 135 ∷ 8 ∷ 24 ∷ 9 ∷ 40 ∷ 56 ∷ 41 ∷ 10 ∷ 26 ∷ 11 ∷ 72 ∷ 88 ∷ 73 ∷ 104 ∷ 120 ∷ 105 ∷ 74 ∷ 90 ∷ 75 ∷ 12 ∷ 28 ∷ 13 ∷ 44 ∷ 60 ∷ 45 ∷ 14 ∷
    30 ∷ 15 ∷ []

marks_computed : every 81 (λ b. eqb (get_or marks b 0) (lowest 4 b * 16 + free_marks 4 b)) ≡ true
unfolding every lowest free_marks
marks_computed = refl

marks_at : (b : ℕ) → b < 81 → get_or marks b 0 ≡ lowest 4 b * 16 + free_marks 4 b
marks_at b l = eqb-true _ _ (every_at 81 (λ b. eqb (get_or marks b 0) (lowest 4 b * 16 + free_marks 4 b)) b marks_computed l)

-- what g takes from an entry is a mask of four marks, so what it takes from two is one of eight
both : (f g : ℕ → ℕ) → f 0 ≡ 0 → ((b : ℕ) → b < 81 → g (get_or marks b 0) ≡ by f 4 b) → (m b : ℕ) → m ≤ 8 → b < 3 ^ m
    → g (get_or marks (b / 81) 0) * 16 + g (get_or marks (b % 81) 0) ≡ by f m b
both f g z e m b h l =
    let t : 3 ^ m ≤ 3 ^ 8 = boxes_mono h in
    ap₂ (λ (x y : ℕ). x * 16 + y) (e (b / 81) (omega arith)) (e (b % 81) (omega arith)) ∙ sym (by_fours f b) ∙ by_wide f z m 8 b h l

pub free_at : (m b : ℕ) → m ≤ 8 → b < 3 ^ m → get_or marks (b / 81) 0 % 16 * 16 + get_or marks (b % 81) 0 % 16 ≡ free_marks m b
free_at m b h l =
    both (λ d. d / 2) (λ x. x % 16) refl (λ k lk. omega (arith, marks_at k lk, free_by 4 k, free_marks_lt 4 k)) m b h l ∙ free_by m b

pub on_at : (m b : ℕ) → m ≤ 8 → b < 3 ^ m → get_or marks (b / 81) 0 / 16 * 16 + get_or marks (b % 81) 0 / 16 ≡ lowest m b
on_at m b h l =
    both (λ d. d % 2) (λ x. x / 16) refl (λ k lk. omega (arith, marks_at k lk, on_by 4 k, free_marks_lt 4 k)) m b h l ∙ on_by m b
