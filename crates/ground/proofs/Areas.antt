-- Laws of texts laid in an area: two texts laid one behind the other are one text (`wrote_then`), and nothing laid is nothing done.
use Prim.Native.Nat.{ℕ, suc, ◌+◌, ◌-◌, ◌≤◌, ◌<◌}
use mathlib.Core.Path.{◌≡◌, refl, sym, ◌∙◌, ap, subst}
use mathlib.Core.List.{List, [], ◌∷◌, ◌++◌, append_assoc, append-nil}
use native.Mathlib.Nat.{add-zero}
use native.Mathlib.Numerals.{add-one}
use native.Mathlib.Omega.{arith}
use lib.ListN.{length, get_or, take, drop, set, length-append, length-drop, take-append-drop}
use lib.Seq.{take_at, drop_at, drop-drop, length-take-le, set_split, append_snoc, take-suc}
use Rattle.ground.specs.Areas.{laid, Wrote}

length-laid : (out : List ℕ) (at : ℕ) (t : List ℕ) → at + length t ≤ length out → length (laid out at t) ≡ length out
unfolding laid
length-laid out at t h =
    omega (
      arith,
      length-append (take at out ++ t) (drop (at + length t) out),
      length-append (take at out) t,
      length-take-le at out (omega arith),
      length-drop (at + length t) out,
    )

laid-laid : (out : List ℕ) (at : ℕ) (a b : List ℕ) → at + length a + length b ≤ length out
    → laid (laid out at a) (at + length a) b ≡ laid out at (a ++ b)
unfolding laid
laid-laid out at a b h =
    let d : List ℕ = drop (at + length a) out in
    let e : length (take at out ++ a) ≡ at + length a = omega (arith, length-append (take at out) a, length-take-le at out (omega arith)) in
    let n : at + length a + length b ≡ at + length (a ++ b) = omega (arith, length-append a b) in
    let g : drop (at + length a + length b) ((take at out ++ a) ++ d) ≡ drop (at + length (a ++ b)) out =
    sym (drop-drop (length b) (at + length a) ((take at out ++ a) ++ d))
    ∙ ap (λ (l : List ℕ). drop (length b) l) (drop_at (take at out ++ a) d (at + length a) e)
    ∙ drop-drop (length b) (at + length a) out
    ∙ ap (λ (n : ℕ). drop n out) n in
    ap (λ (l : List ℕ). (l ++ b) ++ drop (at + length a + length b) ((take at out ++ a) ++ d)) (take_at (take at out ++ a) d (at + length a) e)
    ∙ ap (λ (l : List ℕ). ((take at out ++ a) ++ b) ++ l) g
    ∙ ap (λ (l : List ℕ). l ++ drop (at + length (a ++ b)) out) (append_assoc (take at out) a b)

pub wrote_then : {out o₁ o₂ : List ℕ} {at r₁ r₂ : ℕ} {a b : List ℕ} → Wrote out at a r₁ o₁ → Wrote o₁ r₁ b r₂ o₂
    → at + length a + length b ≤ length out → Wrote out at (a ++ b) r₂ o₂
wrote_then {out} {o₁} {o₂} {at} {r₁} {r₂} {a} {b} p q h =
    record {
      place = omega (arith, p.place, q.place, length-append a b);
      area =
          q.area ∙ ap (λ (o : List ℕ). laid o r₁ b) p.area ∙ ap (λ (n : ℕ). laid (laid out at a) n b) p.place
          ∙ laid-laid out at a b h;
    }

-- nothing laid is nothing done
pub wrote_none : (out : List ℕ) (at : ℕ) → Wrote out at [] at out
unfolding laid
wrote_none out at =
    record {
      place = omega arith;
      area =
          sym (take-append-drop at out) ∙ ap (λ (n : ℕ). take at out ++ drop n out) (sym (add-zero at))
          ∙ ap (λ (l : List ℕ). l ++ drop (at + 0) out) (sym (append-nil (take at out)));
    }

-- the same text, told otherwise
pub wrote_text : {out o₁ : List ℕ} {at r₁ : ℕ} {a b : List ℕ} → a ≡ b → Wrote out at a r₁ o₁ → Wrote out at b r₁ o₁
wrote_text {out} {o₁} {at} {r₁} e w = subst (λ (t : List ℕ). Wrote out at t r₁ o₁) e w

-- the area keeps its length
pub wrote_length : {out o₁ : List ℕ} {at r₁ : ℕ} {a : List ℕ} → Wrote out at a r₁ o₁ → at + length a ≤ length out → length o₁ ≡ length out
wrote_length {out} {o₁} {at} {r₁} {a} p h = ap length p.area ∙ length-laid out at a h

-- a text laid at the front
pub laid_front : (out text : List ℕ) → laid out 0 text ≡ text ++ drop (length text) out
unfolding laid
laid_front out text = let e : 0 + length text ≡ length text = omega arith in ap (λ (n : ℕ). text ++ drop n out) e

-- it is what stands up to the next place
pub wrote_front : {out o₁ : List ℕ} {r₁ : ℕ} {a : List ℕ} → Wrote out 0 a r₁ o₁ → (take r₁ o₁ ≡ a) × (r₁ ≤ length o₁)
unfolding laid
wrote_front {out} {o₁} {r₁} {a} p = (
  ap (λ (o : List ℕ). take r₁ o) p.area ∙ take_at a (drop (0 + length a) out) r₁ (omega (arith, p.place)),
  omega (arith, p.place, ap length p.area, length-append a (drop (0 + length a) out)),
)

-- what stands from the place up to the next place is the text
pub wrote_there : {out o₁ : List ℕ} {at r₁ : ℕ} {a : List ℕ} → Wrote out at a r₁ o₁ → at ≤ length out → take (r₁ - at) (drop at o₁) ≡ a
unfolding laid
wrote_there {out} {o₁} {at} {r₁} {a} p h =
    let rest = drop (at + length a) out in
    ap (λ (o : List ℕ). take (r₁ - at) (drop at o)) (p.area ∙ append_assoc (take at out) a rest)
    ∙ ap (λ (o : List ℕ). take (r₁ - at) o) (drop_at (take at out) (a ++ rest) at (length-take-le at out h))
    ∙ take_at a rest (r₁ - at) (omega (arith, p.place))

-- no two returns meet it
pub wrote_settled : {out o₁ o₂ : List ℕ} {at r₁ r₂ : ℕ} {a : List ℕ} → Wrote out at a r₁ o₁ → Wrote out at a r₂ o₂ → (r₁ ≡ r₂) × (o₁ ≡ o₂)
wrote_settled p q = (p.place ∙ sym q.place, p.area ∙ sym q.area)
