-- Every text reads as something: the reader's steps, followed to the end.
use Prim.Native.Nat.{ℕ, zero, suc, ◌+◌, ◌-◌, ◌*◌, ◌<◌}
use mathlib.Core.Path.{◌≡◌, refl}
use mathlib.Core.List.{List, []}
use native.Mathlib.Omega.{arith}
use lib.ListN.{length, get_or, take, drop}
use Rattle.ground.proofs.Cases.{below_or, same_or, range_or}
use Rattle.times.specs.declared.Form.{Form}
use Rattle.times.specs.declared.Form.TheVariants.{Minutes, Hours}
use Rattle.times.specs.declared.Time.{Time}
use Rattle.times.specs.declared.Time.TheVariants.{Value, Fault}
use Rattle.times.specs.Texts.{Readable}
use Rattle.times.specs.Places.{ReadsAs}
use Rattle.times.specs.Parts.{Lead, Front, Stop, Ended, Two, After, ByParts, Follows, Led, Paired, two, no_tens, no_ones, placed_on}
use Rattle.times.proofs.Places.{Open}
use Rattle.times.proofs.Behinds.{paired_on, unpaired, ended_some, ended_end, ended_more, after_some, after_end, after_more, after_colon}
use Rattle.times.proofs.Fronts.{SoFar, far_none, far_step, stop_at, colon_at, end_at, led_stop, led_on}
use Rattle.times.proofs.Words.{as_read}

-- every text reads as something of L
abbrev Decided : (List ℕ → ℕ → Form → Type 0) → Type 0
Decided L = (l : List ℕ) → (r : Time) × ReadsAs L l r

ended_decided : (g : Form) (n x : ℕ) → Decided (Ended g n x)
ended_decided g n x l = same_or (length l) 0 (λ e. (Value (n * 60 + x) g, ended_end g n x l e)) (λ e. (Fault 0, ended_more g n x l (omega arith)))

paired_decided : (l : List ℕ) → (r : Lead) × Paired l r
paired_decided l =
    below_or 0 (length l)
    (λ h. range_or 48 53 (get_or l 0 0)
    (λ t. below_or 1 (length l)
    (λ k. range_or 48 57 (get_or l 1 0)
    (λ o. (Front ((get_or l 0 0 - 48) * 10 + (get_or l 1 0 - 48)) 2, two k t o refl))
    (λ o. (Stop 1, no_ones h t (λ j. o))))
    (λ k. (Stop 1, no_ones h t (λ j. absurd (omega arith)))))
    (λ t. (Stop 0, no_tens (λ j. t))))
    (λ h. (Stop 0, no_tens (λ j. absurd (omega arith))))

two_decided : (K : ℕ → List ℕ → ℕ → Form → Type 0) → ((x : ℕ) → Open (K x) []) → ((x : ℕ) → Decided (K x)) → Decided (Two K)
two_decided K some decided l = go (paired_decided l)
  where
    go : (r : Lead) × Paired l r → (r : Time) × ReadsAs (Two K) l r
    go (Stop p, w) = (Fault p, unpaired K (λ x h. some x) l w)
    go (Front x k, w) = let d = decided x (drop k l) in (placed_on k d.0, paired_on K l w d.1)

after_decided : (n x : ℕ) → Decided (After n x)
after_decided n x l =
    same_or (length l) 0 (λ e. (Value (n * 60 + x) Minutes, after_end n x l e)) (λ e.
    same_or (get_or l 0 0) 58
    (λ c. range_or 1 9 n
    (λ h. let w = two_decided (Ended Hours (n * 60 + x)) (ended_some Hours (n * 60 + x)) (ended_decided Hours (n * 60 + x)) (drop 1 l) in
    (placed_on 1 w.0, after_colon n x l (omega arith) c h.0 h.1 w.1))
    (λ h. (Fault 0, after_more n x l (omega arith) (λ d a b. h (a, b)))))
    (λ c. (Fault 0, after_more n x l (omega arith) (λ d a b. c d))))

follows_or : {P : Type 0} (i n c : ℕ) → (Follows i n c → P) → ((Follows i n c → ⊥) → P) → P
follows_or i n c good bad =
    range_or 48 57 c
    (λ d. below_or 599 (n * 10 + (c - 48)) (λ l. bad (λ f. omega (arith, f.small))) (λ l.
    below_or 0 n
    (λ k. good (record { digit = d; plain = λ z. k; small = l }))
    (λ k. below_or 0 i (λ j. bad (λ f. omega (arith, f.plain j))) (λ j. good (record { digit = d; plain = λ z. absurd (omega arith); small = l })))))
    (λ d. bad (λ f. d f.digit))

led_decided : (t : List ℕ) (k i n : ℕ) → i + k ≡ length t → SoFar (take i t) n → (r : Lead) × Led t r
led_decided t zero i n h f = (Stop i, end_at t i n f (omega arith))
led_decided t (suc k) i n h f =
    let l : i < length t = omega arith in
    same_or (get_or t i 0) 58
    (λ e. below_or 0 i (λ j. (Front n (i + 1), colon_at t i n f l e j))
    (λ j. (Stop i, stop_at t i n f l (λ q z. omega arith) (λ w. omega (arith, w.digit)))))
    (λ e. follows_or i n (get_or t i 0)
    (λ w. led_decided t k (i + 1) (n * 10 + (get_or t i 0 - 48)) (omega arith) (far_step t i n f l w))
    (λ w. (Stop i, stop_at t i n f l (λ q z. e q) w)))

by_parts_decided : Decided ByParts
by_parts_decided t = go (led_decided t (length t) 0 0 (omega arith) far_none)
  where
    go : (r : Lead) × Led t r → (r : Time) × ReadsAs ByParts t r
    go (Stop p, l) = (Fault p, led_stop l)
    go (Front n k, l) = let w = two_decided (After n) (after_some n) (after_decided n) (drop k t) in (placed_on k w.0, led_on t n k l w.1)

pub time_decided : Decided Readable
time_decided t = let w = by_parts_decided t in (w.0, as_read w.1)
