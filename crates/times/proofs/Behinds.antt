-- Behind a colon: each answer of `two_digits`, whatever may stand behind the digits, and each of `seconds` and `after`.
use Prim.Native.Nat.{ℕ, ◌+◌, ◌-◌, ◌*◌, ◌/◌, ◌%◌, ◌≤◌, ◌<◌}
use mathlib.Core.Path.{◌≡◌, refl, ap, ◌∙◌, subst}
use mathlib.Core.List.{List, [], ◌∷◌, ◌++◌}
use native.Mathlib.Nat.{add-zero}
use native.Mathlib.Omega.{arith}
use lib.ListN.{length, get_or, drop, length-drop}
use Rattle.times.specs.declared.Form.{Form}
use Rattle.times.specs.declared.Form.TheVariants.{Minutes, Hours}
use Rattle.times.specs.declared.Time.{Time}
use Rattle.times.specs.declared.Time.TheVariants.{Value, Fault}
use Rattle.times.specs.Texts.{Sixty}
use Rattle.times.specs.Places.{ReadsAs, value}
use Rattle.times.specs.Parts.{Front, Stop, Ended, Two, After, ends, goes_on, UpTo, Paired, two, no_tens, no_ones, placed_on}
use Rattle.times.proofs.Places.{Open, handed, ends as Ends-there, stops}

-- two bytes that write a number, and the number that they write

sixty : (a b : ℕ) → UpTo 53 a → UpTo 57 b → Sixty (a ∷ b ∷ []) ((a - 48) * 10 + (b - 48))
sixty a b h k =
    let x = (a - 48) * 10 + (b - 48) in
    let e : a ≡ 48 + x / 10 = omega arith in
    let f : b ≡ 48 + x % 10 = omega arith in
    record { small = omega arith; text = cc }

-- whatever may stand behind two digits

module _ (K : ℕ → List ℕ → ℕ → Form → Type 0) where
  pair : (a b : ℕ) (z : List ℕ) (v : ℕ) (f : Form) → UpTo 53 a → UpTo 57 b → K ((a - 48) * 10 + (b - 48)) z v f → Two K (a ∷ b ∷ z) v f
  pair a b z v f h k q = record { digits = a ∷ b ∷ []; x = (a - 48) * 10 + (b - 48); sixty = sixty a b h k; rest = z; text = refl; behind = q }

  bytes : {t : List ℕ} {v : ℕ} {f : Form} (r : Two K t v f) → t ≡ (48 + r.x / 10) ∷ (48 + r.x % 10) ∷ r.rest
  bytes r = r.text ∙ ap (λ (u : List ℕ). u ++ r.rest) r.sixty.text

  first : {a v : ℕ} {z : List ℕ} {f : Form} → Two K (a ∷ z) v f → UpTo 53 a
  first {a} r = let e : a ≡ 48 + r.x / 10 = cc (bytes r) in omega (arith, r.sixty.small)

  second : {a b v : ℕ} {z : List ℕ} {f : Form} → Two K (a ∷ b ∷ z) v f → UpTo 57 b
  second {a} {b} r = let e : b ≡ 48 + r.x % 10 = cc (bytes r) in omega (arith, r.sixty.small)

  pub behind_pair : {a b v : ℕ} {z : List ℕ} {f : Form} → Two K (a ∷ b ∷ z) v f → K ((a - 48) * 10 + (b - 48)) z v f
  behind_pair {a} {b} {v} {z} {f} r =
      let p : a ≡ 48 + r.x / 10 = cc (bytes r) in
      let q : b ≡ 48 + r.x % 10 = cc (bytes r) in
      let i : r.x ≡ (a - 48) * 10 + (b - 48) = omega (arith, r.sixty.small) in
      let e : r.rest ≡ z = cc (bytes r) in
      subst (λ (u : List ℕ). K ((a - 48) * 10 + (b - 48)) u v f) e (subst (λ (y : ℕ). K y r.rest v f) i r.behind)

  pub too_short : {t : List ℕ} {v : ℕ} {f : Form} → length t < 2 → Two K t v f → ⊥
  too_short h r = omega (arith, ap length (bytes r))

  -- both digits stand, and the rest is handed on
  pub paired_on : (l : List ℕ) {x k : ℕ} {r : Time} → Paired l (Front x k) → ReadsAs (K x) (drop k l) r → ReadsAs (Two K) l (placed_on k r)
  paired_on [] (two h a b e) q = absurd (omega arith)
  paired_on (c ∷ []) (two h a b e) q = absurd (omega arith)
  paired_on (c ∷ d ∷ l) {r = r} (two h a b e) q =
      handed (Two K) (K ((c - 48) * 10 + (d - 48))) (c ∷ d ∷ []) (λ z v f y. pair c d z v f a b y) (λ z v f y. behind_pair y)
      (subst (λ (y : ℕ). ReadsAs (K y) l r) e q)

  -- a digit is missing, where something may stand behind any two
  module _ (some : (x : ℕ) → x ≤ 59 → Open (K x) []) where
    one_yet : (a : ℕ) → UpTo 53 a → Open (Two K) (a ∷ [])
    one_yet a h = let o = some ((a - 48) * 10 + (48 - 48)) (omega arith) in
        (48 ∷ o.0, o.1, o.2, pair a 48 o.0 o.1 o.2 h (omega arith, omega arith) o.3)

    none_yet : Open (Two K) []
    none_yet = let o = one_yet 48 (omega arith, omega arith) in (48 ∷ o.0, o.1, o.2, o.3)

    pub unpaired : (l : List ℕ) {p : ℕ} → Paired l (Stop p) → ReadsAs (Two K) l (Fault p)
    unpaired [] (no_tens n) = Ends-there (Two K) [] none_yet (λ v f. too_short (omega arith))
    unpaired [] (no_ones h a n) = absurd (omega arith)
    unpaired (c ∷ l) (no_tens n) = stops (Two K) [] none_yet c l (λ z v f r. n (omega arith) (first r))
    unpaired (c ∷ []) (no_ones h a n) = Ends-there (Two K) (c ∷ []) (one_yet c a) (λ v f. too_short (omega arith))
    unpaired (c ∷ d ∷ l) (no_ones h a n) = stops (Two K) (c ∷ []) (one_yet c a) d l (λ z v f r. n (omega arith) (second r))

-- nothing more may stand there

module _ (g : Form) (n x : ℕ) where
  ended : Ended g n x [] (n * 60 + x) g
  ended = record { nothing = refl; total = refl; form = refl }

  pub ended_some : Open (Ended g n x) []
  ended_some = ([], n * 60 + x, g, ended)

  pub ended_end : (l : List ℕ) → length l ≡ 0 → ReadsAs (Ended g n x) l (Value (n * 60 + x) g)
  ended_end [] h = value ended
  ended_end (a ∷ l) h = absurd (omega arith)

  pub ended_more : (l : List ℕ) → 0 < length l → ReadsAs (Ended g n x) l (Fault 0)
  ended_more [] h = absurd (omega arith)
  ended_more (a ∷ l) h = stops (Ended g n x) [] ended_some a l (λ z v f k. let e = ap length k.nothing in omega arith)

-- two digits and nothing more, or something
module _ (g : Form) (n : ℕ) (l : List ℕ) {x k : ℕ} (p : Paired l (Front x k)) where
  pub pair_end : length l ≤ k → ReadsAs (Two (Ended g n)) l (Value (n * 60 + x) g)
  pair_end h = paired_on (Ended g n) l p (ended_end g n x (drop k l) (omega (arith, length-drop k l)))

  pub pair_more : k < length l → ReadsAs (Two (Ended g n)) l (Fault k)
  pair_more h =
      subst (λ (q : ℕ). ReadsAs (Two (Ended g n)) l (Fault q)) (add-zero k)
      (paired_on (Ended g n) l p (ended_more g n x (drop k l) (omega (arith, length-drop k l))))

-- behind `N:XX`

module _ (n x : ℕ) where
  pub after_some : Open (After n x) []
  after_some = ([], n * 60 + x, Minutes, ends (ended Minutes n x))

  pub after_end : (l : List ℕ) → length l ≡ 0 → ReadsAs (After n x) l (Value (n * 60 + x) Minutes)
  after_end [] h = value (ends (ended Minutes n x))
  after_end (a ∷ l) h = absurd (omega arith)

  -- only a colon goes on, and only behind hours
  going_on : {a v : ℕ} {z : List ℕ} {f : Form} → After n x (a ∷ z) v f → (1 ≤ n) × (n ≤ 9) × (a ≡ 58) × Two (Ended Hours (n * 60 + x)) z v f
  going_on (ends k) = absurd (let e = ap length k.nothing in omega arith)
  going_on {v = v} {z} {f} (goes_on h k rest e q) =
      let y : rest ≡ z = cc in
      (h, k, cc, subst (λ (u : List ℕ). Two (Ended Hours (n * 60 + x)) u v f) y q)

  pub after_more : (l : List ℕ) → 0 < length l → (get_or l 0 0 ≡ 58 → 1 ≤ n → n ≤ 9 → ⊥) → ReadsAs (After n x) l (Fault 0)
  after_more [] h e = absurd (omega arith)
  after_more (a ∷ l) h e = stops (After n x) [] after_some a l (λ z v f k. let w = going_on k in e w.2 w.0 w.1)

  -- the seconds behind hours are handed on
  pub after_colon : (l : List ℕ) {r : Time} → 0 < length l → get_or l 0 0 ≡ 58 → 1 ≤ n → n ≤ 9 → ReadsAs (Two (Ended Hours (n * 60 + x))) (drop 1 l) r
      → ReadsAs (After n x) l (placed_on 1 r)
  after_colon [] h e a b q = absurd (omega arith)
  after_colon (c ∷ l) {r} h e a b q =
      handed (After n x) (Two (Ended Hours (n * 60 + x))) (c ∷ []) (λ z v f k. goes_on a b z (ap (λ (y : ℕ). y ∷ z) e) k) (λ z v f k. (going_on k).3) q

-- the shortest text behind `N:`
pub noughts : (n : ℕ) → Two (After n) (48 ∷ 48 ∷ []) (n * 60 + 0) Minutes
noughts n = pair (After n) 48 48 [] (n * 60 + 0) Minutes (omega arith, omega arith) (omega arith, omega arith) (ends (ended Minutes n 0))
