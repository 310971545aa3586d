-- What `print` writes for 0 to 35,999 seconds is read back by `times` as that number: its minutes are a numeral, and a readable text has one reading.
use Prim.Native.Nat.{ℕ, zero, suc, ◌+◌, ◌-◌, ◌/◌, ◌%◌, ◌≤◌, ◌<◌}
use mathlib.Core.Path.{◌≡◌, refl, sym, subst}
use mathlib.Core.List.{List, [], ◌∷◌, ◌++◌}
use native.Mathlib.Omega.{arith}
use lib.Dec.{ltb}
use lib.ListN.{length, get_or, take, drop}
use lib.Seq.{append_snoc}
use borrow.Author.Tests.{ltb-true, ltb-false}
use Rattle.times.specs.declared.Form.TheVariants.{Minutes}
use Rattle.times.specs.declared.Time.{Time}
use Rattle.times.specs.declared.Time.TheVariants.{Value}
use Rattle.times.specs.Texts.{Digit, Digits, Numeral, minutes, Readable}
use Rattle.times.specs.Places.{ReadsAs, value}
use Rattle.times.proofs.Fronts.{numeral_digit, numeral_more}
use Rattle.times.proofs.Settled.{read_settled}
use Rattle.print.specs.Texts.{decimal, clock}
use Rattle.ground.specs.Areas.{Wrote}
use Rattle.ground.proofs.Areas.{wrote_there}
use Rattle.ground.proofs.Cases.{if}
use Rattle.print.proofs.Digits.{decimal_small, decimal_step}

small : (n : ℕ) → n < 10 → Numeral (decimal n) n
small n h =
    subst (λ (x : List ℕ). Numeral x n) (sym (decimal_small n h))
    (subst (Numeral ((48 + n) ∷ [])) (omega arith) (numeral_digit (48 + n) (omega arith, omega arith)))

numeral_below : (k n : ℕ) → n ≤ k → Numeral (decimal n) n
numeral_below zero n l = small n (omega arith)
numeral_below (suc k) n l =
    if (ltb n 10)
    (λ e. small n (ltb-true n 10 e))
    (λ e.
    let h = ltb-false n 10 e in
    subst (λ (x : List ℕ). Numeral x n) (sym (decimal_step n h))
    (subst (Numeral (decimal (n / 10) ++ (48 + n % 10) ∷ [])) (omega arith)
    (numeral_more (decimal (n / 10)) (n / 10) (48 + n % 10) (numeral_below k (n / 10) (omega arith)) (omega arith, omega arith) (omega arith))))

pub decimal_numeral : (n : ℕ) → Numeral (decimal n) n
decimal_numeral n = numeral_below n n (omega arith)

-- each of its bytes is a digit, and the first of several is not `0`

digits_at : (l : List ℕ) (i : ℕ) → Digits l → i < length l → Digit (get_or l i 0)
unfolding Digits
digits_at [] i d h = absurd (omega arith)
digits_at (c ∷ l) zero d h = d.0
digits_at (c ∷ l) (suc i) d h = digits_at l i d.1 (omega arith)

pub decimal_digit : (n i : ℕ) → i < length (decimal n) → Digit (get_or (decimal n) i 0)
decimal_digit n i h = digits_at (decimal n) i (decimal_numeral n).digits h

pub decimal_plain : (n : ℕ) (rest : List ℕ) → decimal n ≡ 48 ∷ rest → rest ≡ []
decimal_plain n rest e = (decimal_numeral n).plain rest e

pub clock_readable : (n : ℕ) → n ≤ 35999 → Readable (clock n) n Minutes
unfolding clock
clock_readable n h =
    minutes (record {
      first = decimal (n / 60);
      m = n / 60;
      minutes = decimal_numeral (n / 60);
      most = omega arith;
      last = (48 + n % 60 / 10) ∷ (48 + n % 60 % 10) ∷ [];
      s = n % 60;
      seconds = record { small = omega arith; text = refl };
      text = sym (append_snoc (decimal (n / 60)) 58 ((48 + n % 60 / 10) ∷ (48 + n % 60 % 10) ∷ []));
      total = omega arith;
    })

-- of the text that stands in an area after a call of `put_time`, a call of `read` can give nothing but the number, in the form of minutes
pub reads_back : {out later : List ℕ} {at next : ℕ} {time : Time} (n : ℕ) → n ≤ 35999 → at ≤ length out → Wrote out at (clock n) next later
    → ReadsAs Readable (take (next - at) (drop at later)) time → time ≡ Value n Minutes
reads_back {time = time} n h l w r =
    read_settled (subst (λ (x : List ℕ). ReadsAs Readable x time) (wrote_there w l) r) (value (clock_readable n h))
