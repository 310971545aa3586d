-- A table in thirds: the sums over one mark more are those below with the mark off, those with it on, and both together.
use Prim.Native.Nat.{ℕ, suc, ◌+◌, ◌*◌, ◌-◌, ◌^◌, ◌<◌, ◌≤◌}
use mathlib.Core.Path.{◌≡◌, refl, sym, ◌∙◌, ap, ap₂, subst}
use mathlib.Core.List.{List, [], ◌∷◌, ◌++◌}
use native.Mathlib.Nat.{pow-suc, one-le-pow}
use native.Mathlib.Omega.{arith}
use lib.ListN.{length, set, take, drop, replicate, length-append, length-replicate}
use lib.Seq.{get_or-set_same}
use Rattle.std.proofs.lemmas.List.{get_or-take, get_or-drop, get_or_append_left, get_or-append-add, get_or-append_right, get_or-replicate}
use Rattle.boxes.specs.Boxes.{agrees, contains, sum_in, through, single, all_free}
use Rattle.boxes.specs.Sums.{sum}
use Rattle.boxes.proofs.Boxes.{sum_in_ext, sum_in_nothing}
use Rattle.ground.proofs.Cases.{below_or, digit}
use Rattle.boxes.proofs.Choices.{through-lt, through_wide, sum_in-single}
use Rattle.boxes.proofs.Highest.{sum_in_off, sum_in_on, sum_in_free, single_top}
use Rattle.tables.specs.Tables.{entry, afresh, Sums}
use Rattle.tables.specs.Thirds.{AreSums, SumsOf}
use Rattle.tables.proofs.Entries.{tab_of}

-- what stands from `at` on
abbrev from : ℕ → (ℕ → ℕ) → ℕ → ℕ
from at t b = t (at + b)

-- the last part is the sum of the first two
abbrev Added : ℕ → (ℕ → ℕ) → Type 0
Added p t = (b : ℕ) → b < p → t (b + p + p) ≡ t b + t (b + p)

-- a number of three thirds lies in one of them
thirds : {P : Type 0} (p b : ℕ) → b < p * 3 → (b < p → P) → ((c : ℕ) → c < p → b ≡ p + c → P) → ((c : ℕ) → c < p → b ≡ p * 2 + c → P) → P
thirds p b l off on free =
    below_or b p off
    (λ g. below_or b (p * 2) (λ h. on (b - p) (omega arith) (omega arith)) (λ h. free (b - p * 2) (omega arith) (omega arith)))

-- the test

module _ (m : ℕ) (t : ℕ → ℕ) where
  off_own : (c : ℕ) → c < 2 ^ m → t (single m c) ≡ t (single (suc m) c)
  off_own c l = ap t (sym (through_wide m (suc m) c 0 (omega arith) l (omega (arith, one-le-pow m 2 (omega arith)))))

  on_own : (c : ℕ) → c < 2 ^ m → t (3 ^ m + single m c) ≡ t (single (suc m) (2 ^ m + c))
  on_own c l = ap t (sym (single_top m c l))

  low : Sums m t → (b : ℕ) → b < 3 ^ m → t b ≡ sum_in (suc m) b (λ c. t (single (suc m) c))
  low off b q = off b q ∙ sum_in_ext m b _ _ (λ c lc. off_own c lc) ∙ sym (sum_in_off m b (λ c. t (single (suc m) c)) q)

  high : Sums m (from (3 ^ m) t) → (b : ℕ) → b < 3 ^ m → t (3 ^ m + b) ≡ sum_in (suc m) (3 ^ m + b) (λ c. t (single (suc m) c))
  high on b q = on b q ∙ sum_in_ext m b _ _ (λ c lc. on_own c lc) ∙ sym (sum_in_on m b (λ c. t (single (suc m) c)) q)

  pub added_sums : Sums m t → Sums m (from (3 ^ m) t) → Added (3 ^ m) t → Sums (suc m) t
  added_sums off on join b l =
      thirds (3 ^ m) b (omega (arith, pow-suc 3 m))
      (λ q. low off b q)
      (λ c q e. subst (λ (x : ℕ). t x ≡ sum_in (suc m) x (λ c. t (single (suc m) c))) (sym e) (high on c q))
      (λ c q e.
      let at : c + 3 ^ m + 3 ^ m ≡ 3 ^ m * 2 + c = omega arith in
      let mid : c + 3 ^ m ≡ 3 ^ m + c = omega arith in
      subst (λ (x : ℕ). t x ≡ sum_in (suc m) x (λ c. t (single (suc m) c))) (sym e)
      (ap t (sym at) ∙ join c q ∙ omega (arith, ap t mid, low off c q, high on c q, sum_in_free m c (λ c. t (single (suc m) c)) q, sum_in_off m c (λ c. t (single (suc m) c)) q, sum_in_on m c (λ c. t (single (suc m) c)) q)))

  pub sums_off : Sums (suc m) t → Sums m t
  sums_off s b q = s b (omega (arith, pow-suc 3 m)) ∙ sum_in_off m b (λ c. t (single (suc m) c)) q ∙ sum_in_ext m b _ _ (λ c lc. sym (off_own c lc))

  pub sums_on : Sums (suc m) t → Sums m (from (3 ^ m) t)
  sums_on s b q = s (3 ^ m + b) (omega (arith, pow-suc 3 m)) ∙ sum_in_on m b (λ c. t (single (suc m) c)) q ∙ sum_in_ext m b _ _ (λ c lc. sym (on_own c lc))

  pub sums_added : Sums (suc m) t → Added (3 ^ m) t
  sums_added s b q =
      let p = pow-suc 3 m in
      let at : b + 3 ^ m + 3 ^ m ≡ 3 ^ m * 2 + b = omega arith in
      let mid : b + 3 ^ m ≡ 3 ^ m + b = omega arith in
      omega (arith, ap t at, ap t mid, s (3 ^ m * 2 + b) (omega arith), s b (omega arith), s (3 ^ m + b) (omega arith), sum_in_free m b (λ c. t (single (suc m) c)) q, sum_in_off m b (λ c. t (single (suc m) c)) q, sum_in_on m b (λ c. t (single (suc m) c)) q)

-- no mark: the one box has the one combination
pub sums_none : (t : ℕ → ℕ) → Sums 0 t
unfolding through
sums_none t b l =
    let e : b ≡ 0 = omega arith in
    rw e (sym (sum_in-single 0 0 (λ c. t (single 0 c)) (omega arith)))

-- one mark: the box of both combinations has the sum of the two
pub added_one : (m : ℕ) (t : ℕ → ℕ) → m ≡ 1 → t 2 ≡ t 0 + t 1 → Sums m t
added_one m t is e =
    rw is (added_sums 0 t (sums_none t) (sums_none (from (3 ^ 0) t)) (λ b l. let z : b ≡ 0 = omega arith in rw z e))

pub one_added : (m : ℕ) (t : ℕ → ℕ) → m ≡ 1 → Sums m t → t 2 ≡ t 0 + t 1
one_added m t is s = sums_added 0 t (rw is at s) 0 (omega arith)

-- tables with the same entries of boxes
sums_ext : (m : ℕ) (f g : ℕ → ℕ) → ((b : ℕ) → b < 3 ^ m → f b ≡ g b) → Sums m f → Sums m g
sums_ext m f g h s b l = sym (h b l) ∙ s b l ∙ sum_in_ext m b _ _ (λ c lc. h (single m c) (through-lt m c 0))

-- a table taken apart into thirds of p entries
pub record Parted (p : ℕ) (t off on free : List ℕ) : Type 0 where
  pub low : (b : ℕ) → b < p → entry off b ≡ entry t b
  pub high : (b : ℕ) → b < p → entry on b ≡ entry t (p + b)
  pub both : (b : ℕ) → b < p → entry free b ≡ entry t (p + (p + b))

pub parted : (p : ℕ) (t : List ℕ) → Parted p t (take p t) (take p (drop p t)) (drop p (drop p t))
parted p t = record {
  low = λ b l. get_or-take p t b 0 l;
  high = λ b l. get_or-take p (drop p t) b 0 l ∙ get_or-drop p t b 0;
  both = λ b l. get_or-drop p (drop p t) b 0 ∙ get_or-drop p t (p + b) 0;
}

module _ (m : ℕ) {t off on free : List ℕ} (w : Parted (3 ^ m) t off on free) where
  pub parts_sums : length off ≡ 3 ^ m → Sums m (entry off) → Sums m (entry on) → AreSums off on free → Sums (suc m) (entry t)
  parts_sums e off_sums on_sums free_sums =
      added_sums m (entry t) (sums_ext m (entry off) (entry t) w.low off_sums) (sums_ext m (entry on) (from (3 ^ m) (entry t)) w.high on_sums)
      (λ b l.
      let i : b + 3 ^ m + 3 ^ m ≡ 3 ^ m + (3 ^ m + b) = omega arith in
      let j : b + 3 ^ m ≡ 3 ^ m + b = omega arith in
      rw (i, j, sym (w.both b l), sym (w.low b l), sym (w.high b l)) (free_sums b (omega arith)))

  pub sums_low : Sums (suc m) (entry t) → Sums m (entry off)
  sums_low s = sums_ext m (entry t) (entry off) (λ b l. sym (w.low b l)) (sums_off m (entry t) s)

  pub sums_high : Sums (suc m) (entry t) → Sums m (entry on)
  sums_high s = sums_ext m (from (3 ^ m) (entry t)) (entry on) (λ b l. sym (w.high b l)) (sums_on m (entry t) s)

  pub sums_both : length off ≡ 3 ^ m → Sums (suc m) (entry t) → AreSums off on free
  sums_both e s b lb =
      let l : b < 3 ^ m = omega arith in
      let i : b + 3 ^ m + 3 ^ m ≡ 3 ^ m + (3 ^ m + b) = omega arith in
      let j : b + 3 ^ m ≡ 3 ^ m + b = omega arith in
      rw (w.both b l, w.low b l, w.high b l, sym i, sym j) (sums_added m (entry t) s b l)

-- a table made of its thirds
pub sums_joined : (m : ℕ) (own off on free : List ℕ) → length off ≡ 3 ^ m → length on ≡ 3 ^ m → SumsOf m (take (2 ^ m) own) off → SumsOf m (drop (2 ^ m) own) on → AreSums off on free → SumsOf (suc m) own (off ++ (on ++ free))
sums_joined m own off on free lo ln off_sums on_sums both b l =
    let p = 3 ^ m in
    let t = off ++ (on ++ free) in
    let is_low : (x : ℕ) → x < p → entry off x ≡ sum_in m x (entry own) = λ x q. off_sums x q ∙ sum_in_ext m x _ _ (λ c lc. get_or-take (2 ^ m) own c 0 lc) in
    let is_high : (x : ℕ) → x < p → entry on x ≡ sum_in m x (λ c. entry own (2 ^ m + c)) = λ x q. on_sums x q ∙ sum_in_ext m x _ _ (λ c lc. get_or-drop (2 ^ m) own c 0) in
    let on_at : (x : ℕ) → entry t (p + x) ≡ entry (on ++ free) x = λ x. subst (λ (n : ℕ). entry t (n + x) ≡ entry (on ++ free) x) lo (get_or-append-add off (on ++ free) x 0) in
    let free_at : (x : ℕ) → entry (on ++ free) (p + x) ≡ entry free x = λ x. subst (λ (n : ℕ). entry (on ++ free) (n + x) ≡ entry free x) ln (get_or-append-add on free x 0) in
    thirds p b (omega (arith, pow-suc 3 m))
    (λ q. get_or_append_left off (on ++ free) 0 b (omega arith) ∙ is_low b q ∙ sym (sum_in_off m b (entry own) q))
    (λ c q e. rw e (on_at c ∙ get_or_append_left on free 0 c (omega arith) ∙ is_high c q ∙ sym (sum_in_on m c (entry own) q)))
    (λ c q e.
    let i : p * 2 + c ≡ p + (p + c) = omega arith in
    rw e (ap (entry t) i ∙ on_at (p + c) ∙ free_at c ∙ both c (omega arith) ∙ ap₂ (λ (x y : ℕ). x + y) (is_low c q) (is_high c q) ∙ sym (sum_in_free m c (entry own) q)))

-- the sum of all is that of the two halves
pub whole_halves : (m : ℕ) (own : List ℕ)
    → sum_in (suc m) (all_free (suc m)) (entry own) ≡ sum_in m (all_free m) (entry (take (2 ^ m) own)) + sum_in m (all_free m) (entry (drop (2 ^ m) own))
whole_halves m own =
    let one : 1 ≤ 3 ^ m = one-le-pow m 3 (omega arith) in
    let top : 3 ^ suc m - 1 ≡ 3 ^ m * 2 + (3 ^ m - 1) = omega (arith, pow-suc 3 m) in
    ap (λ (x : ℕ). sum_in (suc m) x (entry own)) top
    ∙ sum_in_free m (3 ^ m - 1) (entry own) (omega arith)
    ∙ ap₂ (λ (x y : ℕ). x + y)
    (sum_in_ext m (all_free m) _ _ (λ c lc. sym (get_or-take (2 ^ m) own c 0 lc)))
    (sum_in_ext m (all_free m) _ _ (λ c lc. sym (get_or-drop (2 ^ m) own c 0)))

-- over one mark: the two combinations, and both together

one_mark : (f : ℕ → ℕ) → (sum_in 1 0 f ≡ f 0) × (sum_in 1 1 f ≡ f 1) × (sum_in 1 2 f ≡ f 0 + f 1)
unfolding sum_in sum contains agrees
one_mark f = (omega arith, omega arith, omega arith)

set_three : (t : List ℕ) (x y z : ℕ) → length t ≡ 3 → set (set (set t 0 x) 1 y) 2 z ≡ x ∷ y ∷ z ∷ []
set_three [] x y z e = absurd (omega arith)
set_three (a ∷ []) x y z e = absurd (omega arith)
set_three (a ∷ b ∷ []) x y z e = absurd (omega arith)
set_three (a ∷ b ∷ c ∷ []) x y z e = refl
set_three (a ∷ b ∷ c ∷ d ∷ l) x y z e = absurd (omega arith)

pub sums_three : (m : ℕ) (own t : List ℕ) → m ≡ 1 → length t ≡ 3 ^ m
    → SumsOf m own (set (set (set t 0 (entry own 0)) 1 (entry own 1)) 2 (entry own 0 + entry own 1))
sums_three m own t is e b l =
    let s = one_mark (entry own) in
    let x = entry own 0 in
    let y = entry own 1 in
    let three : 3 ^ m ≡ 3 = ap (λ (n : ℕ). 3 ^ n) is in
    rw (is, set_three t x y (x + y) (e ∙ three))
    (digit (λ (d : ℕ). entry (x ∷ y ∷ (x + y) ∷ []) d ≡ sum_in 1 d (entry own)) b (omega arith) (sym s.0) (sym s.1) (sym s.2))

-- the one combination without marks
pub sums_one : (m : ℕ) (own t : List ℕ) → m ≡ 0 → length t ≡ 3 ^ m → SumsOf m own (set t 0 (entry own 0))
unfolding through
sums_one m own t is e b l =
    let one : 3 ^ m ≡ 1 = ap (λ (n : ℕ). 3 ^ n) is in
    let z : b ≡ 0 = omega arith in
    rw (is, z) (get_or-set_same t 0 (entry own 0) 0 (omega arith) ∙ sym (sum_in-single 0 0 (entry own) (omega arith)))

pub whole_one : (m : ℕ) (own : List ℕ) → m ≡ 1 → sum_in m (all_free m) (entry own) ≡ entry own 0 + entry own 1
whole_one m own is = rw is (one_mark (entry own)).2

-- behind the boxes stands 0
pub sums_behind : (n m : ℕ) (own a z : List ℕ) → length a ≡ 3 ^ m → SumsOf m own a → z ≡ replicate (n - 3 ^ m) 0 → 3 ^ m ≤ n → a ++ z ≡ afresh n m (entry own)
sums_behind n m own a z la sums zeros long =
    let k = n - 3 ^ m in
    let lz : length z ≡ k = ap length zeros ∙ length-replicate k 0 in
    tab_of n (λ b. sum_in m b (entry own)) (a ++ z) (omega (arith, length-append a z))
    (λ b l. below_or b (3 ^ m)
    (λ q. get_or_append_left a z 0 b (omega arith) ∙ sums b q)
    (λ q. get_or-append_right a z (3 ^ m) b 0 la q
    ∙ ap (λ (l : List ℕ). entry l (b - 3 ^ m)) zeros ∙ get_or-replicate k (b - 3 ^ m) 0 0 (omega arith) ∙ sym (sum_in_nothing m b (entry own) q)))
