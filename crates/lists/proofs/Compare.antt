-- Two lists compared place by place: as long as they are equal, which is the smaller is settled by what is left.
use mathlib.Core.Path.{◌≡◌, refl, sym, ◌∙◌}
use mathlib.Core.Bool.{false}
use mathlib.Core.List.{List, [], ◌∷◌}
use mathlib.Core.Logic.{◌⊎◌, inl, inr, ◌↔◌, ⊎_elim}
use Prim.Native.Nat.{ℕ}
use native.Mathlib.Omega.{arith}
use lib.Dec.{ltb}
use lib.ListN.{length}
use borrow.Author.Tests.{ltb-true, lt-ltb}
use Rattle.ground.specs.Decides.{Decides}
use Rattle.ground.proofs.Cases.{decided_no, below_or, same_or}
use Rattle.lists.specs.Lists.{Smaller, Before}
use Rattle.lists.specs.Compared.{HandsBack}

-- what is left of two lists says which is the smaller
pub record RestSays (a b rest_a rest_b : List ℕ) : Type 0 where
  pub says : Smaller a b ↔ Smaller rest_a rest_b

-- lists of another length
pub longer : (a b : List ℕ) → (length a ≡ length b → ⊥) → Decides (ltb (length a) (length b)) (Before a b)
longer a b n = record {
  yes = λ e. inl (ltb-true (length a) (length b) e);
  sure = λ h. lt-ltb (length a) (length b) (⊎_elim (λ x. x) (λ x. absurd (n x.0)) h);
}

module _ {a b r s l k : List ℕ} {x y : ℕ} (rest : RestSays a b r s) (first : r ≡ x ∷ l) (second : s ≡ y ∷ k) where
  -- the first place where they differ
  pub differs : length a ≡ length b → (x ≡ y → ⊥) → Decides (ltb x y) (Before a b)
  unfolding Smaller
  differs e n = record {
    yes = λ t. inr (e, rest.says.1 (rw (first, second) (inl (ltb-true x y t))));
    sure = λ h. ⊎_elim
        (λ q. absurd (omega arith))
        (λ q. lt-ltb x y (⊎_elim (λ z. z) (λ z. absurd (n z.0)) (rw (first, second) at (rest.says.0 q.1)))) h;
  }

  pub goes_on : x ≡ y → RestSays a b l k
  unfolding Smaller
  goes_on e = record {
    says = (
      λ h. ⊎_elim (λ z. absurd (omega arith)) (λ z. z.1) (rw (first, second) at (rest.says.0 h)),
      λ h. rest.says.1 (rw (first, second) (inr (e, h))),
    );
  }

-- no place is left
pub rest_end : {a b r s : List ℕ} → RestSays a b r s → (length r ≡ 0) ⊎ (length s ≡ 0) → length a ≡ length b → Decides false (Before a b)
unfolding Smaller
rest_end {a} {b} {r} {s} rest none e = decided_no refl (⊎_elim (λ x. omega arith) (λ x. ended r s none (rest.says.0 x.1)))
  where
    ended : (r s : List ℕ) → (length r ≡ 0) ⊎ (length s ≡ 0) → Smaller r s → ⊥
    ended [] [] n h = h
    ended [] (y ∷ k) n h = h
    ended (x ∷ l) [] n h = h
    ended (x ∷ l) (y ∷ k) n h = ⊎_elim (λ w. omega arith) (λ w. omega arith) n

-- every two lists are decided
smaller_or : {P : Type 0} (l k : List ℕ) → (Smaller l k → P) → ((Smaller l k → ⊥) → P) → P
unfolding Smaller
smaller_or [] [] yes_then no_then = no_then (λ x. x)
smaller_or [] (b ∷ k) yes_then no_then = no_then (λ x. x)
smaller_or (a ∷ l) [] yes_then no_then = no_then (λ x. x)
smaller_or (a ∷ l) (b ∷ k) yes_then no_then =
    below_or a b (λ h. yes_then (inl h))
    (λ h. same_or a b
    (λ e. smaller_or l k (λ s. yes_then (inr (e, s))) (λ n. no_then (⊎_elim (λ x. omega arith) (λ x. n x.1))))
    (λ n. no_then (⊎_elim (λ x. omega arith) (λ x. n x.0))))

pub before_or : {P : Type 0} (l k : List ℕ) → (Before l k → P) → ((Before l k → ⊥) → P) → P
before_or l k yes_then no_then = same_or (length l) (length k)
    (λ e. smaller_or l k (λ s. yes_then (inr (e, s))) (λ n. no_then (⊎_elim (λ x. omega arith) (λ x. n x.1))))
    (λ n. below_or (length l) (length k) (λ h. yes_then (inl h)) (λ h. no_then (⊎_elim (λ x. omega arith) (λ x. n x.0))))

-- WHAT THE COMPARISON HANDS BACK IS SETTLED
pub handed : {R : Type 0} {l k : List ℕ} {a b r s : R} → HandsBack l k a b r → HandsBack l k a b s → r ≡ s
handed {R} {l} {k} f g = before_or k l (λ h. f.second h ∙ sym (g.second h)) (λ n. f.first n ∙ sym (g.first n))
