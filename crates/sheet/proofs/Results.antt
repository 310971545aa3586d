-- What is told of a call's result settles the result: its number, and the sheet or the value that goes with it. At 10, which no call on an open sheet
-- answers but for a text, the place would have to be told as well.
use Rattle.std.specs.Prelude.{Result, Ok, Err}
use Rattle.std.proofs.Common.{ℕ, ◌≡◌, refl, sym, ap, ap₂}
use Rattle.refusals.specs.declared.Refusal.{Refusal}
use Rattle.refusals.proofs.Settled.{number_settles, never_done}
use Rattle.sheet.specs.Told.{Answer, Value, answer_of, value_of, opening_of}
use Rattle.sheet.specs.declared.Refused.{Refused}
use Rattle.sheet.specs.declared.Sheet.{Sheet}

abbrev number : Answer → ℕ
number a = a.number

abbrev sheet : Answer → Sheet
sheet a = a.sheet

-- a call that changes a sheet
pub answer_one : {r q : Result (Unit {0}) Refusal} {s u : Sheet} → ((answer_of r s).number ≡ 10 → ⊥) → answer_of r s ≡ answer_of q u → (r ≡ q) × (s ≡ u)
answer_one {r = Ok x} {q = Ok y} n e = (refl, ap sheet e)
answer_one {r = Ok x} {q = Err f} n e = absurd (never_done f (sym (ap number e)))
answer_one {r = Err f} {q = Ok x} n e = absurd (never_done f (ap number e))
answer_one {r = Err f} {q = Err g} n e = (ap Err (number_settles f g n (ap number e)), ap sheet e)

abbrev told : Value → ℕ
told v = v.value

abbrev value_number : Value → ℕ
value_number v = v.number

-- a call that reads one
pub value_one : {r q : Result ℕ Refusal} → ((value_of r).number ≡ 10 → ⊥) → value_of r ≡ value_of q → r ≡ q
value_one {r = Ok v} {q = Ok w} n e = ap Ok (ap told e)
value_one {r = Ok v} {q = Err f} n e = absurd (never_done f (sym (ap value_number e)))
value_one {r = Err f} {q = Ok w} n e = absurd (never_done f (ap value_number e))
value_one {r = Err f} {q = Err g} n e = ap Err (number_settles f g n (ap value_number e))

-- an opening
pub opening_one : {r q : Result Sheet Refused} → ((opening_of r).number ≡ 10 → ⊥) → opening_of r ≡ opening_of q → r ≡ q
opening_one {r = Ok s} {q = Ok u} n e = ap Ok (ap sheet e)
opening_one {r = Ok s} {q = Err f} n e = absurd (never_done f.refusal (sym (ap number e)))
opening_one {r = Err f} {q = Ok u} n e = absurd (never_done f.refusal (ap number e))
opening_one {r = Err f} {q = Err g} n e = ap₂ (λ (x : Refusal) (y : Sheet). Err (record { refusal = x; sheet = y })) (number_settles f.refusal g.refusal n (ap number e)) (ap sheet e)
