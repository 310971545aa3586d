-- In front of the colon: what may follow the digits read so far (`next`), and from it each answer of `before_colon` and what `read` makes of it.
use Prim.Native.Nat.{ℕ, suc, ◌+◌, ◌-◌, ◌*◌, ◌≤◌, ◌<◌}
use mathlib.Core.Path.{◌≡◌, refl, sym, ap, ◌∙◌, subst}
use mathlib.Core.List.{List, [], ◌∷◌, ◌++◌}
use mathlib.Core.Logic.{◌⊎◌, inl, inr, ⊎_elim}
use native.Mathlib.Nat.{eq-zero-or-pos}
use native.Mathlib.Numerals.{add-one}
use native.Mathlib.Omega.{arith}
use lib.ListN.{length, get_or, take, drop, length-append}
use lib.Seq.{append_snoc, split_at, take-suc, take_all, drop_at, length-take-le}
use Rattle.ground.proofs.Cases.{same_or}
use Rattle.times.specs.declared.Form.{Form}
use Rattle.times.specs.declared.Form.TheVariants.{Minutes}
use Rattle.times.specs.declared.Time.{Time}
use Rattle.times.specs.declared.Time.TheVariants.{Fault}
use Rattle.times.specs.Texts.{Digit, Digits, digits_value, Numeral}
use Rattle.times.specs.Places.{ReadsAs}
use Rattle.times.specs.Parts.{Front, Stop, Two, After, ByParts, Follows, Led, colon, stop, placed_on}
use Rattle.times.proofs.Places.{Open, ends, stops, handed}
use Rattle.times.proofs.Behinds.{noughts}

digits_append : (a b : List ℕ) → Digits a → Digits b → Digits (a ++ b)
unfolding Digits
digits_append [] b p q = q
digits_append (x ∷ a) b p q = (p.0, digits_append a b p.1 q)

digits_at : (a : List ℕ) (c : ℕ) (b : List ℕ) → Digits (a ++ c ∷ b) → Digit c
unfolding Digits
digits_at [] c b p = p.0
digits_at (x ∷ a) c b p = digits_at a c b p.1

digits_value-append : (n : ℕ) (a b : List ℕ) → digits_value n (a ++ b) ≡ digits_value (digits_value n a) b
unfolding digits_value
digits_value-append n [] b = refl
digits_value-append n (x ∷ a) b = digits_value-append (n * 10 + (x - 48)) a b

digits_value_ge : (n : ℕ) (l : List ℕ) → n ≤ digits_value n l
unfolding digits_value
digits_value_ge n [] = omega arith
digits_value_ge n (x ∷ l) = omega (arith, digits_value_ge (n * 10 + (x - 48)) l)

-- digits up to a colon, against digits and a byte behind them
meet : (a b : List ℕ) (c : ℕ) (x y : List ℕ) → Digits a → Digits b → a ++ 58 ∷ x ≡ b ++ c ∷ y
    → ((a ≡ b) × (c ≡ 58) × (x ≡ y)) ⊎ ((more : List ℕ) × (a ≡ b ++ c ∷ more))
unfolding Digits
meet [] [] c x y p q e = inl (refl, cc, cc)
meet [] (d ∷ b) c x y p q e = let h : d ≡ 58 = cc in let k = q.0 in absurd (omega arith)
meet (d ∷ a) [] c x y p q e = inr (a, cc)
meet (d ∷ a) (f ∷ b) c x y p q e =
    let h : d ≡ f = cc in
    let k : a ++ 58 ∷ x ≡ b ++ c ∷ y = cc in
    ⊎_elim (λ w. let u = w.0 in inl (cc, w.1, w.2)) (λ w. let u = w.1 in inr (w.0, cc)) (meet a b c x y p.1 q.1 k)

-- the digits read so far: nothing, or a numeral up to 599
pub record SoFar (b : List ℕ) (n : ℕ) : Type 0 where
  pub digits : Digits b
  pub plain : (rest : List ℕ) → b ≡ 48 ∷ rest → rest ≡ []
  pub is : digits_value 0 b ≡ n
  pub small : n ≤ 599

pub far_none : SoFar [] 0
unfolding Digits digits_value
far_none = record { digits = tt; plain = λ rest e. let z = ap length e in absurd (omega arith); is = refl; small = omega arith }

far_numeral : {b : List ℕ} {n : ℕ} → SoFar b n → 0 < length b → Numeral b n
far_numeral f h = record { some = h; digits = f.digits; plain = f.plain; is = f.is }

far_of : {b : List ℕ} {n : ℕ} → Numeral b n → n ≤ 599 → SoFar b n
far_of u h = record { digits = u.digits; plain = u.plain; is = u.is; small = h }

-- digits that write 0 begin with `0`
zero_first : (b : List ℕ) → Digits b → 0 < length b → digits_value 0 b ≡ 0 → (t : List ℕ) × (b ≡ 48 ∷ t)
unfolding Digits digits_value
zero_first [] p h e = absurd (omega arith)
zero_first (x ∷ t) p h e =
    let k = p.0 in
    let q : x ≡ 48 = omega (arith, digits_value_ge (0 * 10 + (x - 48)) t) in
    (t, cc)

-- a digit behind a numeral that is not `0` makes no leading zero
more_plain : (a : List ℕ) (n c : ℕ) → ((rest : List ℕ) → a ≡ 48 ∷ rest → rest ≡ []) → digits_value 0 a ≡ n → (0 < length a → 0 < n)
    → (rest : List ℕ) → a ++ c ∷ [] ≡ 48 ∷ rest → rest ≡ []
unfolding digits_value
more_plain [] n c pl is po rest e = cc
more_plain (x ∷ t) n c pl is po rest e =
    let p : x ≡ 48 = cc in
    let q : t ≡ [] = pl t (ap (λ (y : ℕ). y ∷ t) p) in
    let k : digits_value (0 * 10 + (x - 48)) [] ≡ n = ap (digits_value (0 * 10 + (x - 48))) (sym q) ∙ is in
    absurd (omega (arith, k, po (omega arith)))

pub numeral_digit : (c : ℕ) → Digit c → Numeral (c ∷ []) (c - 48)
unfolding Digits digits_value
numeral_digit c d = record { some = omega arith; digits = (d, tt); plain = λ rest e. cc; is = omega arith }

pub numeral_more : (b : List ℕ) (n c : ℕ) → Numeral b n → Digit c → 0 < n → Numeral (b ++ c ∷ []) (n * 10 + (c - 48))
unfolding Digits digits_value
numeral_more b n c u d h =
    record {
      some = omega (arith, length-append b (c ∷ []));
      digits = digits_append b (c ∷ []) u.digits (d, tt);
      plain = more_plain b n c u.plain u.is (λ z. h);
      is = digits_value-append 0 b (c ∷ []) ∙ ap (λ (x : ℕ). x * 10 + (c - 48)) u.is;
    }

-- a number up to 9 is written by one digit
pub one_digit : (l : List ℕ) (n : ℕ) → Numeral l n → n ≤ 9 → l ≡ (48 + n) ∷ []
unfolding Digits digits_value
one_digit [] n u h = absurd (omega (arith, u.some))
one_digit (c ∷ []) n u h = let e : c ≡ 48 + n = omega (arith, u.is, u.digits.0) in cc
one_digit (c ∷ d ∷ l) n u h =
    absurd (same_or c 48
    (λ e. let z = ap length (u.plain (d ∷ l) cc) in omega arith)
    (λ e. omega (arith, e, u.is, u.digits.0, digits_value_ge ((0 * 10 + (c - 48)) * 10 + (d - 48)) l)))

-- how a readable text may go on behind b
data GoesOn (b : List ℕ) (n c : ℕ) (z : List ℕ) (v : ℕ) (f : Form) : Type 0 where
  ended : c ≡ 58 → 0 < length b → Two (After n) z v f → GoesOn b n c z v f
  longer : Follows (length b) n c → GoesOn b n c z v f

joined : (b : List ℕ) (n : ℕ) (s : List ℕ) (v : ℕ) (f : Form) → Numeral b n → n ≤ 599 → Two (After n) s v f → ByParts (b ++ 58 ∷ s) v f
joined b n s v f u h k = record { first = b; n = n; numeral = u; small = h; rest = s; text = sym (append_snoc b 58 s); behind = k }

module _ (b : List ℕ) (n : ℕ) (far : SoFar b n) where
  more_positive : (a : List ℕ) (m c : ℕ) (more : List ℕ) → Numeral a m → a ≡ b ++ c ∷ more → 0 < length b → 0 < n
  more_positive a m c more u e h =
      ⊎_elim
      (λ (z : n ≡ 0).
      let w = zero_first b far.digits h (far.is ∙ z) in
      let q : b ++ c ∷ more ≡ 48 ∷ (w.0 ++ c ∷ more) = ap (λ (x : List ℕ). x ++ c ∷ more) w.1 in
      let y = ap length (u.plain (w.0 ++ c ∷ more) (e ∙ q)) in
      absurd (omega (arith, y, length-append w.0 (c ∷ more))))
      (λ (z : 0 < n). z)
      (eq-zero-or-pos n)

  next : (c : ℕ) (z : List ℕ) (v : ℕ) (f : Form) → ByParts (b ++ c ∷ z) v f → GoesOn b n c z v f
  unfolding digits_value
  next c z v f r =
      ⊎_elim
      (λ w.
      let k : r.n ≡ n = sym r.numeral.is ∙ ap (digits_value 0) w.0 ∙ far.is in
      let y = ap length w.0 in
      ended w.1 (omega (arith, y, r.numeral.some)) (subst (λ (x : List ℕ). Two (After n) x v f) w.2 (subst (λ (x : ℕ). Two (After x) r.rest v f) k r.behind)))
      (λ w. more w.0 w.1)
      (meet r.first b c r.rest z r.numeral.digits far.digits (sym (append_snoc r.first 58 r.rest) ∙ sym r.text))
    where
      more : (rest : List ℕ) → r.first ≡ b ++ c ∷ rest → GoesOn b n c z v f
      more rest e =
          let q : r.n ≡ digits_value (digits_value 0 b * 10 + (c - 48)) rest = sym r.numeral.is ∙ ap (digits_value 0) e ∙ digits_value-append 0 b (c ∷ rest) in
          let g = digits_value_ge (digits_value 0 b * 10 + (c - 48)) rest in
          longer (record {
            digit = digits_at b c rest (subst Digits e r.numeral.digits);
            plain = more_positive r.first r.n c rest r.numeral e;
            small = omega (arith, q, g, far.is, r.small);
          })

  far_more : (c : ℕ) → Follows (length b) n c → SoFar (b ++ c ∷ []) (n * 10 + (c - 48))
  unfolding Digits digits_value
  far_more c w =
      record {
        digits = digits_append b (c ∷ []) far.digits (w.digit, tt);
        plain = more_plain b n c far.plain far.is w.plain;
        is = digits_value-append 0 b (c ∷ []) ∙ ap (λ (x : ℕ). x * 10 + (c - 48)) far.is;
        small = w.small;
      }

  far_open : Open ByParts b
  far_open = go b far
    where
      go : (a : List ℕ) → SoFar a n → Open ByParts a
      go [] g = (48 ∷ 58 ∷ 48 ∷ 48 ∷ [], 0, Minutes, joined (48 ∷ []) 0 (48 ∷ 48 ∷ []) 0 Minutes (numeral_digit 48 (omega arith, omega arith)) (omega arith) (noughts 0))
      go (x ∷ t) g = (58 ∷ 48 ∷ 48 ∷ [], n * 60 + 0, Minutes, joined (x ∷ t) n (48 ∷ 48 ∷ []) (n * 60 + 0) Minutes (far_numeral g (omega arith)) g.small (noughts n))

-- at the place i of the text t, with the digits_value n read so far
module _ (t : List ℕ) (i n : ℕ) (f : SoFar (take i t) n) where
  pub stop_at : i < length t → (get_or t i 0 ≡ 58 → 0 < i → ⊥) → (Follows i n (get_or t i 0) → ⊥) → Led t (Stop i)
  stop_at l no_colon no_digit =
      stop (subst (λ (u : List ℕ). ReadsAs ByParts u (Fault i)) (sym (split_at t i 0 l))
      (subst (λ (k : ℕ). ReadsAs ByParts (take i t ++ get_or t i 0 ∷ drop (suc i) t) (Fault k)) len
      (stops ByParts (take i t) (far_open (take i t) n f) (get_or t i 0) (drop (suc i) t) (λ z v g r. go z v g (next (take i t) n f (get_or t i 0) z v g r)))))
    where
      len : length (take i t) ≡ i
      len = length-take-le i t (omega arith)

      go : (z : List ℕ) (v : ℕ) (g : Form) → GoesOn (take i t) n (get_or t i 0) z v g → ⊥
      go z v g (ended e h q) = no_colon e (omega (arith, len))
      go z v g (longer w) = no_digit (subst (λ (k : ℕ). Follows k n (get_or t i 0)) len w)

  pub colon_at : i < length t → get_or t i 0 ≡ 58 → 0 < i → Led t (Front n (i + 1))
  colon_at l e h =
      let len = length-take-le i t (omega arith) in
      colon {k = i + 1} (take i t) (drop (suc i) t)
      (split_at t i 0 l ∙ ap (λ (x : ℕ). take i t ++ x ∷ drop (suc i) t) e ∙ sym (append_snoc (take i t) 58 (drop (suc i) t)))
      (far_numeral f (omega (arith, len))) f.small (omega (arith, len))

  pub end_at : length t ≡ i → Led t (Stop i)
  end_at h =
      let e = take_all i t (omega arith) in
      let g : SoFar t n = subst (λ (u : List ℕ). SoFar u n) e f in
      stop (subst (λ (k : ℕ). ReadsAs ByParts t (Fault k)) h
      (ends ByParts t (far_open t n g)
      (λ v w r. let d = digits_at r.first 58 r.rest (subst Digits (r.text ∙ append_snoc r.first 58 r.rest) g.digits) in omega arith)))

  pub far_step : i < length t → Follows i n (get_or t i 0) → SoFar (take (i + 1) t) (n * 10 + (get_or t i 0 - 48))
  far_step l w =
      let len = length-take-le i t (omega arith) in
      rw (add-one i, take-suc t i 0) (far_more (take i t) n f (get_or t i 0) (subst (λ (k : ℕ). Follows k n (get_or t i 0)) (sym len) w))

-- behind a numeral and the colon stands what may stand there
module _ (b : List ℕ) (n : ℕ) (u : Numeral b n) (h : n ≤ 599) where
  pub from_colon : (s : List ℕ) (v : ℕ) (f : Form) → ByParts ((b ++ 58 ∷ []) ++ s) v f → Two (After n) s v f
  from_colon s v f r = go (next b n (far_of u h) 58 s v f (subst (λ (x : List ℕ). ByParts x v f) (append_snoc b 58 s) r))
    where
      go : GoesOn b n 58 s v f → Two (After n) s v f
      go (ended e k q) = q
      go (longer w) = let d = w.digit in absurd (omega arith)

  to_colon : (s : List ℕ) (v : ℕ) (f : Form) → Two (After n) s v f → ByParts ((b ++ 58 ∷ []) ++ s) v f
  to_colon s v f k = subst (λ (x : List ℕ). ByParts x v f) (sym (append_snoc b 58 s)) (joined b n s v f u h k)

pub led_stop : {t : List ℕ} {p : ℕ} → Led t (Stop p) → ReadsAs ByParts t (Fault p)
led_stop (stop k) = k

-- the part behind the colon is handed on
pub led_on : (t : List ℕ) (n k : ℕ) {r : Time} → Led t (Front n k) → ReadsAs (Two (After n)) (drop k t) r → ReadsAs ByParts t (placed_on k r)
led_on t n k {r} (colon b z e u h q) x =
    let len : length (b ++ 58 ∷ []) ≡ k = length-append b (58 ∷ []) ∙ sym q in
    let d : drop k t ≡ z = ap (drop k) e ∙ drop_at (b ++ 58 ∷ []) z k len in
    subst (λ (y : List ℕ). ReadsAs ByParts y (placed_on k r)) (sym e)
    (subst (λ (j : ℕ). ReadsAs ByParts ((b ++ 58 ∷ []) ++ z) (placed_on j r)) len
    (handed ByParts (Two (After n)) (b ++ 58 ∷ []) (to_colon b n u h) (from_colon b n u h)
    (subst (λ (y : List ℕ). ReadsAs (Two (After n)) y r) d x)))
