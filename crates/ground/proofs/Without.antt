-- Texts without a byte: they are put together of such texts, and a text is cut in one way at the last of a byte.
use Prim.Native.Nat.{ℕ}
use mathlib.Core.Path.{◌≡◌, refl, sym, subst}
use mathlib.Core.List.{List, [], ◌∷◌, ◌++◌}

-- no byte of the text is b
unfoldable pub Without : ℕ → List ℕ → Type 0
Without b [] = Unit {0}
Without b (c ∷ l) = (c ≡ b → ⊥) × Without b l

pub without_append : (b : ℕ) (x y : List ℕ) → Without b x → Without b y → Without b (x ++ y)
unfolding Without
without_append b [] y p q = q
without_append b (c ∷ x) y p q = (p.0, without_append b x y p.1 q)

pub without_behind : (b : ℕ) (x y : List ℕ) → Without b (x ++ y) → Without b y
unfolding Without
without_behind b [] y p = p
without_behind b (c ∷ x) y p = without_behind b x y p.1

pub without_at : (b : ℕ) (x y : List ℕ) → Without b (x ++ b ∷ y) → ⊥
unfolding Without
without_at b x y p = (without_behind b x (b ∷ y) p).0 refl

-- the last b is in one place
pub last_at : (b : ℕ) (x y u v : List ℕ) → Without b y → Without b v → x ++ b ∷ y ≡ u ++ b ∷ v → (x ≡ u) × (y ≡ v)
last_at b [] y [] v p q e = (refl, cc)
last_at b [] y (c ∷ u) v p q e =
    let d : y ≡ u ++ b ∷ v = cc in
    absurd (without_at b u v (subst (Without b) d p))
last_at b (c ∷ x) y [] v p q e =
    let d : x ++ b ∷ y ≡ v = cc in
    absurd (without_at b x y (subst (Without b) (sym d) q))
last_at b (c ∷ x) y (d ∷ u) v p q e =
    let h : c ≡ d = cc in
    let k : x ++ b ∷ y ≡ u ++ b ∷ v = cc in
    let w = last_at b x y u v p q k in
    let i = w.0 in
    (cc, w.1)
