-- Number and place settle the refusal, and no refusal has the number of what is done: each refusal is read back from its number and its place.
use Rattle.std.proofs.Common.{ℕ, ◌<◌, ◌≡◌, refl, sym, ap₂, ◌∙◌, arith}
use Rattle.std.specs.Prelude.{cond, eqb}
use Rattle.refusals.specs.Numbers.{number_of, place_of}
use Rattle.refusals.specs.declared.Refusal.{Refusal}
use Rattle.refusals.specs.declared.Refusal.TheVariants.{Marks, Combination, Standing, Amount, Room, Spoiled, Above, Below, Unreadable, Date, Either, Profile}

abbrev refusal_of : (number place : ℕ) → Refusal
refusal_of n p =
    cond (eqb n 1) Marks (cond (eqb n 2) Combination (cond (eqb n 3) Standing
    (cond (eqb n 4) Amount (cond (eqb n 5) Room (cond (eqb n 7) Spoiled
    (cond (eqb n 8) Above (cond (eqb n 9) Below (cond (eqb n 10) (Unreadable p)
    (cond (eqb n 11) Date (cond (eqb n 12) Either Profile))))))))))

read_back : (e : Refusal) → refusal_of (number_of e) (place_of e) ≡ e
read_back Marks = refl
read_back Combination = refl
read_back Standing = refl
read_back Amount = refl
read_back Room = refl
read_back Spoiled = refl
read_back Above = refl
read_back Below = refl
read_back (Unreadable p) = refl
read_back Date = refl
read_back Either = refl
read_back Profile = refl

pub refusal_settled : (e f : Refusal) → number_of e ≡ number_of f → place_of e ≡ place_of f → e ≡ f
refusal_settled e f number place = sym (read_back e) ∙ ap₂ refusal_of number place ∙ read_back f

numbered : (e : Refusal) → 0 < number_of e
numbered Marks = omega arith
numbered Combination = omega arith
numbered Standing = omega arith
numbered Amount = omega arith
numbered Room = omega arith
numbered Spoiled = omega arith
numbered Above = omega arith
numbered Below = omega arith
numbered (Unreadable p) = omega arith
numbered Date = omega arith
numbered Either = omega arith
numbered Profile = omega arith

pub never_done : (e : Refusal) → number_of e ≡ 0 → ⊥
never_done e z = omega (arith, numbered e)

-- every number but 10 settles the refusal alone

pub no_place : (e : Refusal) → (number_of e ≡ 10 → ⊥) → place_of e ≡ 0
no_place Marks n = refl
no_place Combination n = refl
no_place Standing n = refl
no_place Amount n = refl
no_place Room n = refl
no_place Spoiled n = refl
no_place Above n = refl
no_place Below n = refl
no_place (Unreadable p) n = absurd (n refl)
no_place Date n = refl
no_place Either n = refl
no_place Profile n = refl

pub number_settles : (e f : Refusal) → (number_of e ≡ 10 → ⊥) → number_of e ≡ number_of f → e ≡ f
number_settles e f n same = refusal_settled e f same (no_place e n ∙ sym (no_place f (λ ten. n (same ∙ ten))))
