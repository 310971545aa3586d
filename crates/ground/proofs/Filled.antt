-- A table that is filled from the front: so far it holds f at each place below n.
use Prim.Native.Nat.{ℕ, ◌+◌, ◌<◌}
use mathlib.Core.List.{List}
use mathlib.Core.Path.{◌≡◌, ◌∙◌}
use native.Mathlib.Omega.{arith}
use lib.ListN.{length, get_or, set, length-set}
use lib.Seq.{get_or-set_same, get_or-set_other}
use Rattle.ground.proofs.Cases.{below_or}

pub record Filled (size : ℕ) (f : ℕ → ℕ) (n : ℕ) (t : List ℕ) : Type 0 where
  pub long : length t ≡ size
  pub holds : (k : ℕ) → k < n → get_or t k 0 ≡ f k

pub filled_none : {size : ℕ} (f : ℕ → ℕ) (t : List ℕ) → length t ≡ size → Filled size f 0 t
filled_none f t e = record { long = e; holds = λ k h. absurd (omega arith) }

pub filled_more : {size n x : ℕ} {f : ℕ → ℕ} {t : List ℕ} → n < size → x ≡ f n → Filled size f n t → Filled size f (n + 1) (set t n x)
filled_more {size} {n} {x} {f} {t} l e t_filled =
    record {
      long = length-set t n x ∙ t_filled.long;
      holds = λ k h. below_or k n
          (λ q. get_or-set_other t n k x 0 (λ (w : k ≡ n). omega arith) ∙ t_filled.holds k q)
          (λ q. let w : k ≡ n = omega arith in rw w (get_or-set_same t n x 0 (omega (arith, t_filled.long)) ∙ e));
    }
