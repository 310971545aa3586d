-- A number in decimal is what std calls its `decimal`, which `itoa` writes: the digits behind those of n / 10, and so on from the last to the first.
use Rattle.std.proofs.Common.{◌≡◌, ℕ, zero, suc, ◌+◌, ◌/◌, ◌%◌, ◌^◌, ◌<◌, List, [], ◌∷◌, ◌++◌, false, arith, sym, ap, ◌∙◌, eq-eqb, ne_eqb, lt-ltb, pow-suc, append_assoc, append-nil}
use Rattle.std.specs.Fmt.{decimal as std_decimal, digits, digits_onto, digit_glyph}
use native.Mathlib.Nat.{pow-zero}
use Rattle.ground.proofs.Cases.{below_or}
use Rattle.print.specs.Texts.{decimal}
use Rattle.print.proofs.Digits.{decimal_small, decimal_step}

glyph : (d : ℕ) → d < 10 → digit_glyph false d ≡ 48 + d
glyph d h = rw (lt-ltb d 10 h)

-- the last digit
last : (k n : ℕ) (acc : List ℕ) → n < 10 → digits_onto (suc k) 10 false n acc ≡ decimal n ++ acc
last k n acc l = rw (eq-eqb (n / 10) 0 (omega arith), glyph (n % 10) (omega arith), decimal_small n l) (ap (λ (x : ℕ). (48 + x) ∷ acc) (omega arith))

onto : (k n : ℕ) (acc : List ℕ) → n < 10 ^ suc k → digits_onto (suc k) 10 false n acc ≡ decimal n ++ acc
onto zero n acc h = last zero n acc (omega (arith, pow-suc 10 0, pow-zero 10))
onto (suc k) n acc h =
    let p = pow-suc 10 (suc k) in
    below_or n 10 (last (suc k) n acc)
    (λ l. rw (ne_eqb (n / 10) 0 (λ e. omega arith), glyph (n % 10) (omega arith), decimal_step n l)
    (onto k (n / 10) ((48 + n % 10) ∷ acc) (omega arith) ∙ sym (append_assoc (decimal (n / 10)) ((48 + n % 10) ∷ []) acc)))

pub decimal_is : (n : ℕ) → n < 2 ^ 64 → std_decimal n ≡ decimal n
unfolding digits
decimal_is n h = onto 63 n [] (omega arith) ∙ append-nil (decimal n)
