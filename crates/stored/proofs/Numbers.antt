-- Numbers in k bytes, low byte first: the bytes of a number are read as that number, and k bytes are those of the number that they are read as.
use Prim.Native.Nat.{ℕ, zero, suc, ◌+◌, ◌*◌, ◌/◌, ◌%◌, ◌^◌, ◌≤◌, ◌<◌}
use mathlib.Core.Path.{◌≡◌, refl, sym, ap, ap₂, ◌∙◌}
use mathlib.Core.List.{List, [], ◌∷◌, ◌++◌}
use native.Mathlib.Nat.{pow-suc, one-le-pow}
use native.Mathlib.Omega.{arith}
use lib.ListN.{length, take, drop, take-append-drop}
use lib.Seq.{take_at, drop_at, get_or-drop}
use Rattle.stored.specs.Fields.{Bytes, number_in}
use Rattle.stored.specs.Form.{bytes}

pub bytes_drop : (k : ℕ) (l : List ℕ) → Bytes l → Bytes (drop k l)
bytes_drop k l h i = omega (arith, get_or-drop k l i 0, h (k + i))

pub number_below : (k : ℕ) (l : List ℕ) → Bytes l → number_in (take k l) < 256 ^ k
unfolding number_in
number_below zero l b = omega arith
number_below (suc k) [] b = omega (arith, pow-suc 256 k, one-le-pow k 256 (omega arith))
number_below (suc k) (x ∷ l) b = omega (arith, pow-suc 256 k, b 0, number_below k l (λ i. b (suc i)))

pub bytes-length : (k n : ℕ) → length (bytes k n) ≡ k
unfolding bytes
bytes-length zero n = refl
bytes-length (suc k) n = ap suc (bytes-length k (n / 256))

number_bytes : (k n : ℕ) → n < 256 ^ k → number_in (bytes k n) ≡ n
unfolding bytes number_in
number_bytes zero n h = omega arith
number_bytes (suc k) n h = omega (arith, pow-suc 256 k, number_bytes k (n / 256) (omega (arith, pow-suc 256 k)))

pub number_front : (k n : ℕ) (l : List ℕ) → n < 256 ^ k → number_in (take k (bytes k n ++ l)) ≡ n
number_front k n l h = ap number_in (take_at (bytes k n) l k (bytes-length k n)) ∙ number_bytes k n h

pub drop_front : (k n : ℕ) (l : List ℕ) → drop k (bytes k n ++ l) ≡ l
drop_front k n l = drop_at (bytes k n) l k (bytes-length k n)

bytes_number : (k : ℕ) (l : List ℕ) → k ≤ length l → Bytes l → take k l ≡ bytes k (number_in (take k l))
unfolding bytes number_in
bytes_number zero l h b = refl
bytes_number (suc k) [] h b = absurd (omega arith)
bytes_number (suc k) (x ∷ l) h b =
    let n = number_in (take k l) in
    let low : x < 256 = b 0 in
    let r : (x + n * 256) % 256 ≡ x = omega arith in
    let q : (x + n * 256) / 256 ≡ n = omega arith in
    ap₂ (λ (y : ℕ) (z : List ℕ). y ∷ z) (sym r) (bytes_number k l (omega arith) (λ i. b (suc i)) ∙ ap (bytes k) (sym q))

pub bytes_split : (k : ℕ) (l : List ℕ) → k ≤ length l → Bytes l → l ≡ bytes k (number_in (take k l)) ++ drop k l
bytes_split k l h b = sym (take-append-drop k l) ∙ ap (λ (x : List ℕ). x ++ drop k l) (bytes_number k l h b)

-- one byte
pub number_one : (x : ℕ) (l : List ℕ) → number_in (take 1 (x ∷ l)) ≡ x
unfolding number_in
number_one x l = omega arith

pub byte_split : (l : List ℕ) → 1 ≤ length l → l ≡ number_in (take 1 l) ∷ drop 1 l
byte_split [] h = absurd (omega arith)
byte_split (x ∷ l) h = ap (λ (y : ℕ). y ∷ l) (sym (number_one x l))
