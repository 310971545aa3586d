-- Calls that are accepted one after another, and one more at their end.
use Prim.Native.Nat.{ℕ}
use mathlib.Core.Path.{◌≡◌, refl, ap, ◌∙◌}
use mathlib.Core.Bool.{Bool, cond}
use mathlib.Core.List.{List, [], ◌∷◌, ◌++◌}
use lib.ListN.{length, replicate}
use borrow.Author.Tests.{eq-eqb}
use Rattle.sheet.specs.Record.{Record}
use Rattle.changes.specs.declared.Call.{Call}
use Rattle.changes.specs.declared.Call.TheVariants.{Change, Receive, Withdraw}
use Rattle.histories.specs.Histories.{Good, number_of, accepted, after, after_all, numbers_of}
use Rattle.histories.proofs.Goods.{good_accepted}
use Rattle.bookings.specs.Months.{Accepts, none, call}

pub after_more : (r : Record) (ks : List Call) (k : Call) → after_all accepted r (ks ++ k ∷ []) ≡ accepted (after_all accepted r ks) k
unfolding after_all
after_more r [] k = refl
after_more r (c ∷ ks) k = after_more (accepted r c) ks k

pub accepts_more : {r : Record} {ks : List Call} (k : Call) → Accepts r ks → number_of (after_all accepted r ks) k ≡ 0 → Accepts r (ks ++ k ∷ [])
unfolding after_all
accepts_more k none z = call z none
accepts_more k (call e a) z = call e (accepts_more k a z)

pub accepts_good : {r : Record} {ks : List Call} → Good r → Accepts r ks → Good (after_all accepted r ks)
unfolding after_all
accepts_good g none = g
accepts_good {r} g (call {k = k} e a) = accepts_good (good_accepted r g k e) a

accepted-after : (r : Record) (k : Call) → number_of r k ≡ 0 → after r k ≡ accepted r k
accepted-after r k z = ap (λ (t : Bool). cond t (accepted r k) r) (eq-eqb (number_of r k) 0 z)

-- what they come to is what any calls come to that are made in this order, and every number given is 0
pub accepts_after : {r : Record} {ks : List Call} → Accepts r ks → after_all after r ks ≡ after_all accepted r ks
unfolding after_all
accepts_after none = refl
accepts_after {r} (call {k = k} {ks = ks} e a) = ap (λ (q : Record). after_all after q ks) (accepted-after r k e) ∙ accepts_after a

pub accepts_numbers : {r : Record} {ks : List Call} → Accepts r ks → numbers_of number_of after r ks ≡ replicate (length ks) 0
unfolding numbers_of
accepts_numbers none = refl
accepts_numbers {r} (call {k = k} {ks = ks} e a) =
    ap (λ (n : ℕ). n ∷ numbers_of number_of after (after r k) ks) e
    ∙ ap (λ (q : Record). 0 ∷ numbers_of number_of after q ks) (accepted-after r k e)
    ∙ ap (λ (l : List ℕ). 0 ∷ l) (accepts_numbers a)

-- no call changes the marks
pub marks_after : (r : Record) (ks : List Call) → (after_all accepted r ks).marks ≡ r.marks
unfolding after_all
marks_after r [] = refl
marks_after r (Change to c ∷ ks) = marks_after (accepted r (Change to c)) ks
marks_after r (Receive c d ∷ ks) = marks_after (accepted r (Receive c d)) ks
marks_after r (Withdraw c d ∷ ks) = marks_after (accepted r (Withdraw c d)) ks
