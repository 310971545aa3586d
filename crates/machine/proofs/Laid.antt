-- Texts laid one behind the other, and how long a refusal is.
use Prim.Native.Nat.{ℕ, ◌+◌, ◌^◌, ◌≤◌, ◌<◌}
use mathlib.Core.Path.{◌≡◌, ap}
use mathlib.Core.List.{List, [], ◌∷◌, ◌++◌}
use native.Mathlib.Omega.{arith}
use lib.Dec.{eqb}
use lib.ListN.{length, take, drop, length-append}
use lib.Seq.{length-take-le}
use Rattle.ground.specs.Areas.{laid, Wrote}
use Rattle.ground.specs.Texts.{ascii}
use Rattle.ground.proofs.Areas.{wrote_then, wrote_front}
use Rattle.print.specs.Texts.{decimal}
use Rattle.print.proofs.Digits.{number_room}
use Rattle.ground.proofs.Cases.{if}
use Rattle.machine.specs.Machine.{refusal, spoken}
use Rattle.machine.specs.Steps.{page_room}

pub wrote_three : {out o₁ o₂ o₃ : List ℕ} {at r₁ r₂ r₃ : ℕ} {a b c : List ℕ} → Wrote out at a r₁ o₁ → Wrote o₁ r₁ b r₂ o₂ → Wrote o₂ r₂ c r₃ o₃
    → at + length a + length b + length c ≤ length out → Wrote out at (a ++ b ++ c) r₃ o₃
wrote_three {a = a} {b = b} p q r h = wrote_then (wrote_then p q (omega arith)) r (omega (arith, length-append a b))

-- where the area keeps its length, what was laid behind a text had room
pub wrote_behind : {out o₁ o₂ : List ℕ} {r₁ r₂ : ℕ} {a b : List ℕ} → Wrote out 0 a r₁ o₁ → Wrote o₁ r₁ b r₂ o₂ → length o₁ ≡ length out → length o₂ ≡ length out
    → Wrote out 0 (a ++ b) r₂ o₂
unfolding laid
wrote_behind {out} {o₁} {o₂} {r₁} {b = b} p q f g =
    let n : length o₂ ≡ length (take r₁ o₁ ++ b ++ drop (r₁ + length b) o₁) = ap length q.area in
    wrote_then p q (omega (
      arith,
      p.place,
      length-append (take r₁ o₁ ++ b) (drop (r₁ + length b) o₁),
      length-append (take r₁ o₁) b,
      length-take-le r₁ o₁ (wrote_front p).1,
    ))

pub refusal-length : (k a : ℕ) → k < 2 ^ 64 → a < 2 ^ 64 → length (refusal k a) ≤ 50
unfolding refusal
refusal-length k a h l =
    omega (
      arith,
      number_room k h,
      number_room a l,
      length-append (decimal k) (ascii " "),
      length-append (decimal k ++ ascii " ") (decimal a),
      length-append (decimal k ++ ascii " " ++ decimal a) (10 ∷ []),
    )

spoken-length : (k a : ℕ) → k < 2 ^ 64 → a < 2 ^ 64 → length (spoken k a) ≤ 50
spoken-length k a h l = if (eqb a 0) (λ e. rw e (omega arith)) (λ e. rw e (refusal-length k a h l))

-- a refusal, or nothing, has room
pub spoken_short : (k a : ℕ) {w : ℕ} {out later : List ℕ} → Wrote out 0 (spoken k a) w later → k < 2 ^ 64 → a < 2 ^ 64 → w ≤ page_room
spoken_short k a p h l = omega (arith, p.place, spoken-length k a h l)
