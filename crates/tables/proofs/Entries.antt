-- Tables by their entries: two tables of one length with the same entries are one.
use Prim.Native.Nat.{ℕ, zero, suc, ◌^◌, ◌<◌, ◌≤◌}
use mathlib.Core.Path.{◌≡◌, refl, sym, ◌∙◌, ap}
use mathlib.Core.List.{List}
use native.Mathlib.Omega.{arith}
use lib.ListN.{length}
use lib.Seq.{ext_get_or}
use Rattle.boxes.specs.Boxes.{sum_in, single}
use Rattle.boxes.proofs.Boxes.{sum_in_ext}
use Rattle.boxes.proofs.Choices.{through-lt, sum_in-single}
use Rattle.tables.specs.Tables.{tab, entry, own, afresh, Sums}

pub tab-length : (n : ℕ) (f : ℕ → ℕ) → length (tab n f) ≡ n
unfolding tab
tab-length zero f = refl
tab-length (suc n) f = ap suc (tab-length n (λ k. f (suc k)))

pub tab-entry : (n : ℕ) (f : ℕ → ℕ) (b : ℕ) → b < n → entry (tab n f) b ≡ f b
unfolding tab
tab-entry zero f b l = absurd (omega arith)
tab-entry (suc n) f zero l = refl
tab-entry (suc n) f (suc b) l = tab-entry n (λ k. f (suc k)) b (omega arith)

pub tab_of : (n : ℕ) (f : ℕ → ℕ) (t : List ℕ) → length t ≡ n → ((b : ℕ) → b < n → entry t b ≡ f b) → t ≡ tab n f
tab_of n f t e h =
    ext_get_or 0 t (tab n f) (e ∙ sym (tab-length n f))
    (λ b l. let q : b < n = omega arith in h b q ∙ sym (tab-entry n f b q))

pub tab_ext : (n : ℕ) (f g : ℕ → ℕ) → ((b : ℕ) → b < n → f b ≡ g b) → tab n f ≡ tab n g
tab_ext n f g h = tab_of n g (tab n f) (tab-length n f) (λ b l. tab-entry n f b l ∙ h b l)

pub afresh_ext : (n m : ℕ) (f g : ℕ → ℕ) → ((c : ℕ) → c < 2 ^ m → f c ≡ g c) → afresh n m f ≡ afresh n m g
afresh_ext n m f g h = tab_ext n _ _ (λ b l. sum_in_ext m b f g h)

pub afresh-entry : (n m : ℕ) (f : ℕ → ℕ) (b : ℕ) → b < n → entry (afresh n m f) b ≡ sum_in m b f
afresh-entry n m f b l = tab-entry n _ b l

module _ (n m : ℕ) (f : ℕ → ℕ) (fits : 3 ^ m ≤ n) where
  pub afresh_own : (c : ℕ) → c < 2 ^ m → own m (afresh n m f) c ≡ f c
  afresh_own c l = afresh-entry n m f (single m c) (omega (arith, through-lt m c 0)) ∙ sum_in-single m c f l

  pub afresh_sums : Sums m (entry (afresh n m f))
  afresh_sums b l = afresh-entry n m f b (omega arith) ∙ sum_in_ext m b f (own m (afresh n m f)) (λ c lc. sym (afresh_own c lc))
