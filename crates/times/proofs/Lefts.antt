-- What is left of a text behind a part of it: a part that is handed on leaves unread what the whole text does.
use Rattle.std.proofs.Common.{◌≡◌, ℕ, ◌+◌, ◌-◌, ◌*◌, ◌≤◌, ◌<◌, List, ◌∷◌, length, get_or, take, drop, Result, Ok, Err, arith, refl, ap, subst, ◌∙◌}
use Rattle.std.specs.Borrow.{Bor}
use Rattle.std.proofs.lemmas.List.{drop-drop, length-drop, take_all}
use Rattle.times.specs.declared.Form.{Form}
use Rattle.times.specs.declared.Form.TheVariants.{Hours}
use Rattle.times.specs.declared.Time.{Time}
use Rattle.times.specs.declared.Time.TheVariants.{Value, Fault}
use Rattle.times.specs.Places.{ReadsAs, value}
use Rattle.times.specs.Parts.{Front, Stop, Left, Reads, NoDigit, Paired, two, no_tens, no_ones, Two, After, Ended, placed_on}
use Rattle.times.proofs.Behinds.{pair_more, pair_end, after_more, after_colon}

-- what is left of a part is left of the text that ends in it
pub left_on : {t part rest : List ℕ} {P Q R : ℕ → Type 0} (w : Left t part P) (u : Left part rest Q) → R (w.k + u.k) → Left t rest R
left_on {t} w u r =
    record {
      k = w.k + u.k;
      inside = omega (arith, w.inside, u.inside, ap length w.rest_is, length-drop w.k t);
      rest_is = u.rest_is ∙ ap (drop u.k) w.rest_is ∙ drop-drop u.k w.k t;
      there = r;
    }

worth : {L : List ℕ → ℕ → Form → Type 0} {t : List ℕ} {v : ℕ} {f : Form} → ReadsAs L t (Value v f) → L t v f
worth (value w) = w

-- a part that is handed on is read as the text is
module _ {K L : List ℕ → ℕ → Form → Type 0} {t part : List ℕ} {P : ℕ → Type 0} (w : Left t part P)
    (on : (r : Time) → ReadsAs K (drop w.k t) r → ReadsAs L t (placed_on w.k r)) where
  on_part : (r : Time) → ReadsAs K part r → ReadsAs L t (placed_on w.k r)
  on_part r k = on r (subst (λ u. ReadsAs K u r) w.rest_is k)

  pub reads_on : (r : Result (ℕ × Form) (Bor (List ℕ))) → Reads K part r → Reads L t r
  reads_on (Ok v) k = worth (on_part (Value v.0 v.1) (value k))
  reads_on (Err rest) u = left_on w u (on_part (Fault u.k) u.there)

-- a digit that is missing, and two that stand there
pub left_tens : {t rest : List ℕ} → rest ≡ t → NoDigit 53 t → Left t rest (λ k. Paired t (Stop k))
left_tens e n = record { k = 0; inside = omega arith; rest_is = e; there = no_tens n }

pub left_ones : {t behind rest : List ℕ} (a : ℕ) → t ≡ (48 + a) ∷ behind → 48 + a ≤ 53 → rest ≡ behind → NoDigit 57 behind
    → Left t rest (λ k. Paired t (Stop k))
left_ones a e h f n = rw (e, f) (record { k = 1; inside = omega arith; rest_is = refl; there = no_ones (omega arith) (omega arith, h) (λ l u. n (omega arith) u) })

pub left_pair : {t behind rest : List ℕ} (a b : ℕ) → t ≡ (48 + a) ∷ behind → 48 + a ≤ 53 → behind ≡ (48 + b) ∷ rest → 48 + b ≤ 57
    → Left t rest (λ k. Paired t (Front (a * 10 + b) k))
left_pair a b e h f j = rw (e, f) (record { k = 2; inside = omega arith; rest_is = refl; there = two {x = a * 10 + b} (omega arith) (omega arith, h) (omega arith, j) (omega arith) })

pub left_as : {t rest : List ℕ} {P Q : ℕ → Type 0} → ((k : ℕ) → P k → Q k) → Left t rest P → Left t rest Q
left_as f w = record { k = w.k; inside = w.inside; rest_is = w.rest_is; there = f w.k w.there }

-- behind two digits more is left, or nothing
module _ (g : Form) (n x : ℕ) {t end : List ℕ} (w : Left t end (λ k. Paired t (Front x k))) where
  size : length end ≡ length t - w.k
  size = ap length w.rest_is ∙ length-drop w.k t

  pub left_more : 0 < length end → Left t end (λ k. ReadsAs (Two (Ended g n)) t (Fault k))
  left_more h = record { k = w.k; inside = w.inside; rest_is = w.rest_is; there = pair_more g n t w.there (omega (arith, size)) }

  pub left_none : length end ≡ 0 → Two (Ended g n) t (n * 60 + x) g
  left_none h = worth (pair_end g n t w.there (omega (arith, size, w.inside)))

-- in front of what may follow `N:XX`, and behind its colon
pub left_after : (n x : ℕ) (t : List ℕ) → 0 < length t → (get_or t 0 0 ≡ 58 → 1 ≤ n → n ≤ 9 → ⊥) → Left t t (λ k. ReadsAs (After n x) t (Fault k))
left_after n x t h e = record { k = 0; inside = omega arith; rest_is = refl; there = after_more n x t h e }

-- the place is how much stands in front of what is left
pub fault_left : {L : List ℕ → ℕ → Form → Type 0} {t rest : List ℕ} → Left t rest (λ k. ReadsAs L t (Fault k)) → ReadsAs L t (Fault (length t - length rest))
fault_left {L} {t} w =
    subst (λ p. ReadsAs L t (Fault p)) (omega (arith, ap length w.rest_is, length-drop w.k t, w.inside)) w.there

-- the part that is lent from the place k on
pub left_here : {t : List ℕ} {P : ℕ → Type 0} (k : ℕ) → k ≤ length t → P k → Left t (take (length t - k) (drop k t)) P
left_here {t} k h p = record { k = k; inside = h; rest_is = take_all (length t - k) (drop k t) (omega (arith, length-drop k t)); there = p }

pub reads_after : (n x : ℕ) (t : List ℕ) → 0 < length t → get_or t 0 0 ≡ 58 → 1 ≤ n → n ≤ 9 → (r : Result (ℕ × Form) (Bor (List ℕ)))
    → Reads (Two (Ended Hours (n * 60 + x))) (take (length t - 1) (drop 1 t)) r → Reads (After n x) t r
unfolding left_here
reads_after n x t h c a b r = reads_on (left_here {t = t} {P = λ k. Unit {0}} 1 h tt) (λ q. after_colon n x t h c a b) r
