-- Figures one by one: how many there are, which bytes they can be, and that a number is known by them.
use Prim.Native.Nat.{ℕ, zero, suc, ◌+◌, ◌*◌, ◌/◌, ◌%◌, ◌^◌, ◌<◌, ◌≤◌}
use mathlib.Core.Path.{◌≡◌, refl, sym, ap, ap₂, ◌∙◌, subst}
use mathlib.Core.List.{List, [], ◌∷◌, ◌++◌}
use native.Mathlib.Nat.{pow-zero, pow-suc, mod-lt, mod-add-div, div-lt_iff_lt-mul}
use native.Mathlib.Omega.{arith}
use lib.ListN.{length, get_or, take, length-append, get_or-append}
use lib.Seq.{take_at, get_or_at}
use Rattle.ground.specs.Figures.{figures}
use Rattle.ground.proofs.Cases.{below_or}
use Rattle.ground.proofs.Without.{Without, without_append}

pub figures-length : (base k n : ℕ) → length (figures base k n) ≡ k
unfolding figures
figures-length base zero n = refl
figures-length base (suc k) n = omega (arith, length-append (figures base k (n / base)) ((48 + n % base) ∷ []), figures-length base k (n / base))

module _ (base : ℕ) (some : 0 < base) where
  pub figures_byte : (k n i : ℕ) → i < k → (48 ≤ get_or (figures base k n) i 0) × (get_or (figures base k n) i 0 < 48 + base)
  unfolding figures
  figures_byte zero n i h = absurd (omega arith)
  figures_byte (suc k) n i h =
      let w = figures base k (n / base) in
      let l = figures-length base k (n / base) in
      let m = mod-lt n some in
      below_or i k
      (λ j. let e : get_or (w ++ (48 + n % base) ∷ []) i 0 ≡ get_or w i 0 = get_or-append w ((48 + n % base) ∷ []) 0 i (omega arith) in
      let b = figures_byte k (n / base) i j in (omega arith, omega arith))
      (λ j. let e : get_or (w ++ (48 + n % base) ∷ []) i 0 ≡ 48 + n % base = get_or_at w (48 + n % base) [] 0 i (omega arith) in (omega arith, omega arith))

  -- no other byte is among them
  pub figures_without : (b k n : ℕ) → ((x : ℕ) → x < base → 48 + x ≡ b → ⊥) → Without b (figures base k n)
  unfolding figures Without
  figures_without b zero n h = tt
  figures_without b (suc k) n h =
      without_append b (figures base k (n / base)) ((48 + n % base) ∷ []) (figures_without b k (n / base) h) (h (n % base) (mod-lt n some), tt)

  -- two numbers that are written alike are one
  pub figures_same : (k a c : ℕ) → a < base ^ k → c < base ^ k → figures base k a ≡ figures base k c → a ≡ c
  unfolding figures
  figures_same zero a c h l e = omega (arith, pow-zero base)
  figures_same (suc k) a c h l e =
      let u = figures base k (a / base) in
      let v = figures base k (c / base) in
      let f : u ≡ v = sym (take_at u ((48 + a % base) ∷ []) k (figures-length base k (a / base))) ∙ ap (take k) e ∙ take_at v ((48 + c % base) ∷ []) k (figures-length base k (c / base)) in
      let g : 48 + a % base ≡ 48 + c % base =
      sym (get_or_at u (48 + a % base) [] 0 k (figures-length base k (a / base))) ∙ ap (λ (t : List ℕ). get_or t k 0) e ∙ get_or_at v (48 + c % base) [] 0 k (figures-length base k (c / base)) in
      let q : a / base ≡ c / base = figures_same k (a / base) (c / base) (below k a h) (below k c l) f in
      sym (mod-add-div a base) ∙ ap₂ (λ (x y : ℕ). x + base * y) (omega arith) q ∙ mod-add-div c base
    where
      below : (k n : ℕ) → n < base ^ suc k → n / base < base ^ k
      below k n h = (div-lt_iff_lt-mul some).1 (subst (λ (x : ℕ). n < x) (pow-suc base k) h)
