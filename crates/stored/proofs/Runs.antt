-- A run has one outcome. A run that is good took every field.
use Prim.Native.Nat.{ℕ, ◌+◌, ◌≤◌}
use mathlib.Core.Path.{◌≡◌, refl, sym, ap, subst}
use mathlib.Core.Bool.{Bool, true, false, cond}
use mathlib.Core.List.{List, []}
use native.Mathlib.Omega.{arith}
use lib.ListN.{length, take, drop}
use Rattle.sheet.specs.Record.{Record, Obeys}
use Rattle.stored.specs.Fields.{number_in, Due, width, Next, due, complete, end, wrong, judge, Outcome, good, refused, Run, done, over, without, with, broken, obeyed, early, faulty, field}

-- nothing goes on behind a field that was wrong
blocked : {n : ℕ} {s : Next} → s ≡ wrong n → (s ≡ wrong n → ◌≡◌ {A = ℕ} 0 1) → ⊥
blocked e f = let z = f e in omega arith

pub stuck : {most n at : ℕ} {s : Next} {l : List ℕ} {o : Outcome} → s ≡ wrong n → Run most s at l o → ⊥
stuck e done = blocked e (λ q. cc)
stuck e over = blocked e (λ q. cc)
stuck e without = blocked e (λ q. cc)
stuck e (with x) = blocked e (λ q. cc)
stuck e (broken n) = blocked e (λ q. cc)
stuck e (obeyed o x) = blocked e (λ q. cc)
stuck e (early h) = blocked e (λ q. cc)
stuck e (faulty h w) = blocked e (λ q. cc)
stuck e (field h r) = blocked e (λ q. cc)

same_wrong : {n m : ℕ} {s : Next} → s ≡ wrong n → s ≡ wrong m → n ≡ m
same_wrong p q = cc

pub one : {most : ℕ} {s : Next} {at : ℕ} {l : List ℕ} {o u : Outcome} → Run most s at l o → Run most s at l u → o ≡ u
one done done = refl
one over over = refl
one without without = refl
one (with x) (with y) = one x y
one (broken n) (broken k) = refl
one (broken n) (obeyed o y) = absurd (n o)
one (obeyed o x) (broken n) = absurd (n o)
one (obeyed o x) (obeyed p y) = one x y
one (early h) (early k) = refl
one (early h) (faulty k q) = absurd (omega arith)
one (early h) (field k r) = absurd (omega arith)
one (faulty h q) (early k) = absurd (omega arith)
one (faulty {at = at} h q) (faulty k y) = ap (λ (n : ℕ). refused n at) (same_wrong q y)
one (faulty h q) (field k r) = absurd (stuck q r)
one (field h r) (early k) = absurd (omega arith)
one (field h r) (faulty k q) = absurd (stuck q r)
one (field h r) (field k s) = one r s

-- a good run took the field that is due
pub took : {most : ℕ} {d : Due} {at : ℕ} {l : List ℕ} {r : Record} → Run most (due d) at l (good r)
    → (width d ≤ length l) × Run most (judge most d (number_in (take (width d) l))) (at + width d) (drop (width d) l) (good r)
took (field h x) = (h, x)

-- the test that it had to pass
pub passed : {most at : ℕ} {l : List ℕ} {o : Outcome} (b : Bool) (s : Next) (n : ℕ) → Run most (cond b s (wrong n)) at l o → (b ≡ true) × Run most s at l o
passed true s n x = (refl, x)
passed false s n x = absurd (stuck {n = n} refl x)

pub ended : {most at : ℕ} {l : List ℕ} {r q : Record} → Run most (end r) at l (good q) → (l ≡ []) × (r ≡ q)
ended done = (refl, refl)

-- a profile is complete and its record obeys it
pub completed : {most start at : ℕ} {l : List ℕ} {r q : Record} → Run most (complete r start) at l (good q) → Obeys r × ((l ≡ []) × (r ≡ q))
completed (obeyed o x) = (o, ended x)

-- a field is taken, its judgement told otherwise (a constructor's own arguments are found too late for rw and omega)
pub goes : {most at : ℕ} {o : Outcome} (d : Due) (l : List ℕ) (s : Next) → width d ≤ length l → judge most d (number_in (take (width d) l)) ≡ s
    → Run most s (at + width d) (drop (width d) l) o → Run most (due d) at l o
goes {most} {at} {o} d l s h e x = field h (subst (λ (u : Next). Run most u (at + width d) (drop (width d) l) o) (sym e) x)
