-- A move at one combination c goes through the boxes that contain c by their free marks: those below k have moved, by g, and no other entry has.
use Prim.Native.Nat.{ℕ, ◌+◌, ◌^◌, ◌<◌, ◌≤◌}
use mathlib.Core.Bool.{Bool, true, cond}
use mathlib.Core.Path.{◌≡◌, refl, sym, ◌∙◌, ap, subst}
use mathlib.Core.List.{List}
use native.Mathlib.Omega.{arith}
use lib.ListN.{length, get_or, take, set, length-set}
use lib.Seq.{get_or-set_same, get_or-set_other, length-take-le}
use Rattle.std.proofs.lemmas.List.{get_or-take}
use Rattle.boxes.specs.Parts.{AllThrough}
use Rattle.boxes.specs.Boxes.{contains, through}
use Rattle.ground.proofs.Cases.{if, clash, below_or, same_or}
use Rattle.boxes.proofs.Choices.{through-lt, through-contains, through_free, free_marks_through, free_marks, free_marks_lt}
use Rattle.tables.specs.declared.Shift.{Shift}
use Rattle.tables.specs.Tables.{entry, shifted, moved}
use Rattle.tables.proofs.Entries.{tab_of}

pub record MovedUpTo (m c k : ℕ) (g : ℕ → ℕ) (t₀ t : List ℕ) : Type 0 where
  pub long : length t ≡ length t₀
  pub gone : (b : ℕ) → contains m b c ≡ true → free_marks m b < k → entry t b ≡ g (entry t₀ b)
  pub rest : (b : ℕ) → (contains m b c ≡ true → k ≤ free_marks m b) → entry t b ≡ entry t₀ b

pub moved-start : (m c : ℕ) (g : ℕ → ℕ) (t : List ℕ) → MovedUpTo m c 0 g t t
moved-start m c g t = record { long = refl; gone = λ b e l. absurd (omega arith); rest = λ b h. refl }

module _ {m c k : ℕ} {g : ℕ → ℕ} {t₀ t : List ℕ} (v : MovedUpTo m c k g t₀ t) (lk : k < 2 ^ m) where
  -- the box of turn k has not moved yet
  moved_here : entry t (through m c k) ≡ entry t₀ (through m c k)
  moved_here = v.rest (through m c k) (λ e. omega (arith, free_marks_through m c k lk))

  turn_is : (b : ℕ) → contains m b c ≡ true → free_marks m b ≡ k → b ≡ through m c k
  turn_is b e f = sym (through_free m b c e) ∙ ap (through m c) f

  moved_more : c < 2 ^ m → 3 ^ m ≤ length t₀ → MovedUpTo m c (k + 1) g t₀ (set t (through m c k) (g (entry t (through m c k))))
  moved_more lc h =
      let at = through m c k in
      let x = g (entry t at) in
      let la : at < length t = omega (arith, through-lt m c k, v.long) in
      let here : entry (set t at x) at ≡ g (entry t₀ at) = get_or-set_same t at x 0 la ∙ ap g moved_here in
      record {
        long = length-set t at x ∙ v.long;
        gone = λ b e l. same_or b at
            (λ s. ap (entry (set t at x)) s ∙ here ∙ ap (λ (z : ℕ). g (entry t₀ z)) (sym s))
            (λ n. get_or-set_other t at b x 0 n ∙ v.gone b e (below_or (free_marks m b) k (λ q. q) (λ q. absurd (n (turn_is b e (omega arith))))));
        rest = λ b h. same_or b at
            (λ s. absurd (omega (arith, h (ap (λ (z : ℕ). contains m z c) s ∙ through-contains m c k lc), ap (free_marks m) s, free_marks_through m c k lk)))
            (λ n. get_or-set_other t at b x 0 n ∙ v.rest b (λ e. omega (arith, h e)));
      }

-- turn k, at the box b through c with the free marks k: it is touched, has not moved yet, and moves now
pub record Turn (m c k : ℕ) (g : ℕ → ℕ) (t₀ t : List ℕ) (b : ℕ) : Type 0 where
  pub touches : contains m b c ≡ true
  pub inside : b < length t
  pub still : entry t b ≡ entry t₀ b
  pub moves : MovedUpTo m c (k + 1) g t₀ (set t b (g (entry t b)))

pub moved_turn : {m c k : ℕ} {g : ℕ → ℕ} {t₀ t : List ℕ} → MovedUpTo m c k g t₀ t → k < 2 ^ m → c < 2 ^ m → 3 ^ m ≤ length t₀
    → (b : ℕ) → b ≡ through m c k → Turn m c k g t₀ t b
moved_turn {m} {c} {k} {g} {t₀} {t} v lk lc h b e =
    subst (Turn m c k g t₀ t) (sym e)
    (record {
      touches = through-contains m c k lc;
      inside = omega (arith, through-lt m c k, v.long);
      still = moved_here v lk;
      moves = moved_more v lk lc h;
    })

pub moved_all : {m c : ℕ} (s : Shift) {t₀ t : List ℕ} → MovedUpTo m c (2 ^ m) (shifted s) t₀ t → t ≡ moved m c s t₀
moved_all {m} {c} s {t₀} {t} v =
    let g = shifted s in
    tab_of (length t₀) _ t v.long
    (λ b l. if (contains m b c)
    (λ e. v.gone b e (free_marks_lt m b) ∙ ap (λ (z : Bool). cond z (g (entry t₀ b)) (entry t₀ b)) (sym e))
    (λ e. v.rest b (λ w. clash w e) ∙ ap (λ (z : Bool). cond z (g (entry t₀ b)) (entry t₀ b)) (sym e)))

-- the boxes through c, lent as far as there are any
pub through_taken : (m c n k : ℕ) (all : List ℕ) → AllThrough m c all → n ≡ 2 ^ m → n ≤ length all → k < length (take n all)
    → (k < 2 ^ m) × (get_or (take n all) k 0 ≡ through m c k)
through_taken m c n k all is few long l =
    let q : k < n = omega (arith, length-take-le n all long) in
    (omega arith, get_or-take n all k 0 q ∙ is k (omega arith))
