-- The order of a fitting list, a box at a time: the box in front is the one that contains the lowest needed combination.
use mathlib.Core.Path.{◌≡◌, refl, sym, ap, ap₂, ◌∙◌, fun_ext}
use mathlib.Core.Bool.{Bool, true, false, not, ◌&&◌, and-true, and-false, false≢true}
use mathlib.Core.List.{List, [], ◌∷◌}
use Prim.Native.Nat.{ℕ, ◌^◌, ◌<◌, ◌≤◌}
use native.Mathlib.Omega.{arith}
use Rattle.boxes.specs.Boxes.{contains}
use Rattle.ground.proofs.Cases.{if, clash, below_or, and_left, and_right}
use Rattle.lists.specs.Lists.{covered, Apart, Fits, lowest_of, lowest_needed, Ahead, Rising}
use Rattle.lists.proofs.Count.{covered_in, covered_out}
use Rattle.lists.proofs.Fit.{less, lowest-true, lowest-le}

and_both : (x y : Bool) → x ≡ true → y ≡ true → (x && y) ≡ true
and_both x y e f = rw (e, f)

module _ (m : ℕ) where
  -- b shares nothing with the boxes of l
  abbrev pub Away : ℕ → List ℕ → Type 0
  Away b l = (c : ℕ) → contains m b c ≡ true → covered m l c ≡ false

  pub away_rest : {need room : ℕ → Bool} {b : ℕ} {l : List ℕ} → Fits m need room (b ∷ l) → Away b l
  unfolding Apart
  away_rest f = f.apart.0

  away_head : (b a : ℕ) (l : List ℕ) → Away b (a ∷ l) → (c : ℕ) → contains m b c ≡ true → contains m a c ≡ false
  away_head b a l h c e = if (contains m a c) (λ t. absurd (clash (covered_in m a l c t) (h c e))) (λ t. t)

  away_tail : (b a : ℕ) (l : List ℕ) → Away b (a ∷ l) → Away b l
  away_tail b a l h c e = sym (covered_out m a l c (away_head b a l h c e)) ∙ h c e

  module _ (need : ℕ → Bool) (b : ℕ) where
    -- a box that shares nothing with b has the same lowest needed combination with b and without
    low_less : (a : ℕ) → ((c : ℕ) → contains m b c ≡ true → contains m a c ≡ false) → lowest_needed m (less m need b) a ≡ lowest_needed m need a
    low_less a h = ap (lowest_of m) (fun_ext (λ c. if (contains m b c)
        (λ e. ap (λ (x : Bool). need c && not (contains m b c) && x) (h c e) ∙ and-false (need c && not (contains m b c))
        ∙ sym (ap (λ (x : Bool). need c && x) (h c e) ∙ and-false (need c)))
        (λ e. ap (λ (x : Bool). need c && not x && contains m a c) e ∙ ap (λ (x : Bool). x && contains m a c) (and-true (need c)))))

    ahead_same : (x : ℕ) (l : List ℕ) → lowest_needed m (less m need b) x ≡ lowest_needed m need x → Away b l → Ahead m (less m need b) x l ≡ Ahead m need x l
    unfolding Ahead
    ahead_same x [] e p = refl
    ahead_same x (a ∷ l) e p = rw (e, low_less a (away_head b a l p), ahead_same x l e (away_tail b a l p))

    -- boxes away from b rise the same with b and without
    rising_same : (l : List ℕ) → Away b l → Rising m (less m need b) l ≡ Rising m need l
    unfolding Rising
    rising_same [] p = refl
    rising_same (a ∷ l) p =
        ap₂ (λ (A B : Type 0). A × B) (ahead_same a l (low_less a (away_head b a l p)) (away_tail b a l p)) (rising_same l (away_tail b a l p))

    pub rising_tail : (l : List ℕ) → Away b l → Rising m need (b ∷ l) → Rising m (less m need b) l
    unfolding Rising
    rising_tail l p h = rw (rising_same l p) h.1

    module _ (some_need : lowest_of m need < 2 ^ m) where
      -- a box that contains the lowest needed combination is ahead of all that are away from it
      ahead_all : contains m b (lowest_of m need) ≡ true → (l : List ℕ) → Away b l → Ahead m need b l
      unfolding Ahead
      ahead_all e [] p = tt
      ahead_all e (a ∷ l) p =
          let lb : lowest_needed m need b ≤ lowest_of m need = lowest-le m (λ c. need c && contains m b c) (lowest_of m need) (and_both _ _ (lowest-true m need some_need) e) some_need in (
            below_or (lowest_of m need) (lowest_needed m need a) (λ q. omega arith)
                (λ q.
                let t = lowest-true m (λ c. need c && contains m a c) (omega arith) in
                let g : lowest_of m need ≤ lowest_needed m need a = lowest-le m need (lowest_needed m need a) (and_left _ _ t) (omega arith) in
                let s : lowest_needed m need a ≡ lowest_of m need = omega arith in
                absurd (clash (sym (ap (contains m a) s) ∙ and_right (need (lowest_needed m need a)) _ t) (away_head b a l p (lowest_of m need) e))),
            ahead_all e l (away_tail b a l p),
          )

      pub rising_cons : contains m b (lowest_of m need) ≡ true → (l : List ℕ) → Away b l → Rising m (less m need b) l → Rising m need (b ∷ l)
      unfolding Rising
      rising_cons e l p h = (ahead_all e l p, rw (rising_same l p) at h)

      -- and the box in front of a rising fitting list contains it
      behind : (l : List ℕ) → Ahead m need b l → covered m l (lowest_of m need) ≡ true → ⊥
      unfolding Ahead covered
      behind [] h e = false≢true e
      behind (a ∷ l) h e = if (contains m a (lowest_of m need))
          (λ t.
          let la : lowest_needed m need a ≤ lowest_of m need = lowest-le m (λ c. need c && contains m a c) (lowest_of m need) (and_both _ _ (lowest-true m need some_need) t) some_need in
          let u = lowest-true m (λ c. need c && contains m b c) (omega arith) in
          let g : lowest_of m need ≤ lowest_needed m need b = lowest-le m need (lowest_needed m need b) (and_left _ _ u) (omega arith) in
          omega arith)
          (λ t. behind l h.1 (sym (covered_out m a l (lowest_of m need) t) ∙ e))

      pub head_has : {room : ℕ → Bool} {l : List ℕ} → Fits m need room (b ∷ l) → Rising m need (b ∷ l) → contains m b (lowest_of m need) ≡ true
      unfolding Rising
      head_has {room} {l} f h = if (contains m b (lowest_of m need)) (λ e. e)
          (λ e. absurd (behind l h.0 (sym (covered_out m b l (lowest_of m need) e) ∙ f.covers (lowest_of m need) (lowest-true m need some_need))))
