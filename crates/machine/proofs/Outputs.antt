-- EXACTLY ONE OUTPUT FOR EACH INPUT, where a line in a state leads to one state and prints one text; and no two returns of a call.
use Prim.Native.Nat.{ℕ, ◌+◌}
use mathlib.Core.Path.{◌≡◌, refl, sym, ap, ap₂, ◌∙◌, subst}
use mathlib.Core.List.{List, [], ◌∷◌, ◌++◌}
use Rattle.ground.specs.Areas.{Wrote}
use Rattle.ground.proofs.Areas.{wrote_settled}
use Rattle.machine.specs.Rows.{Row, whole, rows, SameBut, same, but}
use Rattle.machine.specs.Machine.{Machine, Onward, stopped, line, Output}
use Rattle.machine.specs.Answers.{OneAnswer, SomeAnswer}
use Rattle.machine.specs.Pieces.{Position, in-line, state_in, Takes, none, byte, newline, Finishes, ended, cut_off, FedBy, FinishedBy}
use Rattle.machine.specs.Steps.{SteppedBy, StoppedBy}

module _ {M : Machine} (one : OneAnswer M) where
  onward_one : {k : ℕ} {s : M.State} {l : List Row} {a b : List ℕ} → Onward M k s l a → Onward M k s l b → a ≡ b
  onward_one (stopped x) (stopped y) = one.stop x y
  onward_one {k} (line {rest = rest} {now = a} x p) (line {now = b} {later = d} y q) =
      let e = one.step x y in
      ap₂ (λ (g h : List ℕ). g ++ h) e.1 (onward_one p (subst (λ (t : M.State). Onward M (k + 1) t rest d) (sym e.0) q))

  takes_one : {p q r : Position M} {a x y : List ℕ} → Takes M p a q x → Takes M p a r y → (q ≡ r) × (x ≡ y)
  takes_one none none = (refl, refl)
  takes_one (byte n p) (byte k q) = takes_one p q
  takes_one (byte n p) (newline e q) = absurd (n refl)
  takes_one (newline e p) (byte n q) = absurd (n refl)
  takes_one {r = r} (newline {k} {rest = rest} e p) (newline {later = d} f q) =
      let w = one.step e f in
      let v = takes_one p (subst (λ (t : M.State). Takes M (in-line (k + 1) t []) rest r d) (sym w.0) q) in
      (v.0, ap₂ (λ (g h : List ℕ). g ++ h) w.1 v.1)

  finishes_one : {p : Position M} {x y : List ℕ} → Finishes M p x → Finishes M p y → x ≡ y
  finishes_one (ended a) (ended b) = one.stop a b
  finishes_one (cut_off e a) (cut_off {text = y} f b) =
      let w = one.step e f in
      ap₂ (λ (g h : List ℕ). g ++ h) w.1 (one.stop a (subst (λ (t : M.State). M.stop t y) (sym w.0) b))

  -- no two returns of a call
  pub fed_one : {p q r : Position M} {a out o₁ o₂ : List ℕ} {u v w x : ℕ} → FedBy M p a out u w q o₁ → FedBy M p a out v x r o₂
      → (q ≡ r) × (u ≡ v) × (w ≡ x) × (o₁ ≡ o₂)
  fed_one {out = out} {o₂ = o₂} {x = x} f g =
      let t = takes_one f.takes g.takes in
      let w = wrote_settled f.laid (subst (λ (l : List ℕ). Wrote out 0 l x o₂) (sym t.1) g.laid) in
      (t.0, f.used ∙ sym g.used, w.0, w.1)

  pub finished_one : {p : Position M} {out o₁ o₂ : List ℕ} {w x : ℕ} → FinishedBy M p out w o₁ → FinishedBy M p out x o₂ → (w ≡ x) × (o₁ ≡ o₂)
  finished_one {out = out} {o₂ = o₂} {x = x} f g =
      wrote_settled f.laid (subst (λ (l : List ℕ). Wrote out 0 l x o₂) (sym (finishes_one f.finishes g.finishes)) g.laid)

  pub stepped_one : {S : Type 0} {held : M.State → S} {k : ℕ} {s : M.State} {row : Row} {out o₁ o₂ : List ℕ} {c d : S} {w x : ℕ}
      → SteppedBy M held k s row out c w o₁ → SteppedBy M held k s row out d x o₂ → (c ≡ d) × (w ≡ x) × (o₁ ≡ o₂)
  stepped_one {held = held} {out = out} {o₂ = o₂} {x = x} f g =
      let t = one.step f.step g.step in
      let w = wrote_settled f.laid (subst (λ (l : List ℕ). Wrote out 0 l x o₂) (sym t.1) g.laid) in
      (f.is ∙ ap held t.0 ∙ sym g.is, w.0, w.1)

  pub stopped_one : {s : M.State} {out o₁ o₂ : List ℕ} {at w x : ℕ} → StoppedBy M s out at w o₁ → StoppedBy M s out at x o₂ → (w ≡ x) × (o₁ ≡ o₂)
  stopped_one {out = out} {o₂ = o₂} {at = at} {x = x} f g =
      wrote_settled f.laid (subst (λ (l : List ℕ). Wrote out at l x o₂) (one.stop g.stop f.stop) g.laid)

  module _ (all : SomeAnswer M) where
    -- it stays in states that it can be in
    pub can_step : {k : ℕ} {s t : M.State} {row : Row} {now : List ℕ} → M.step k s row t now → all.Can s → all.Can t
    can_step {k} {s} {row = row} e c = let w = all.step k s row c in subst all.Can (one.step w.2 e).0 w.3

    onward_some : (k : ℕ) (s : M.State) (l : List Row) → all.Can s → (text : List ℕ) × Onward M k s l text
    onward_some k s [] c = let t = all.stop s c in (t.0, stopped t.1)
    onward_some k s (row ∷ rest) c =
        let w = all.step k s row c in
        let t = onward_some (k + 1) w.0 rest w.3 in
        (w.1 ++ t.0, line w.2 t.1)

    pub one_output : (input : List ℕ) → (output : List ℕ) × Output M input output × ((other : List ℕ) → Output M input other → other ≡ output)
    one_output input = let t = onward_some 1 M.start (rows input) all.start in (t.0, t.1, λ other p. onward_one p t.1)

-- what every line keeps, bytes that are taken keep
pub takes-kept : {M : Machine} (P : M.State → Type 0) → ((k : ℕ) (s t : M.State) (row : Row) (now : List ℕ) → M.step k s row t now → P s → P t)
    → {p q : Position M} {a said : List ℕ} → Takes M p a q said → P (state_in p) → P (state_in q)
takes-kept P kept none c = c
takes-kept P kept (byte n p) c = takes-kept P kept p c
takes-kept P kept (newline e p) c = takes-kept P kept p (kept _ _ _ _ _ e c)

-- lines that lead to the same state and print the same can stand for each other
pub onward_but : (M : Machine) (R : List ℕ → List ℕ → Type 0)
    → ((k : ℕ) (s t : M.State) (line other now : List ℕ) → R line other → M.step k s (whole line) t now → M.step k s (whole other) t now)
    → {k : ℕ} {s : M.State} {a b : List Row} {text : List ℕ} → SameBut R a b → Onward M k s a text → Onward M k s b text
onward_but M R alike SameBut.none (stopped x) = stopped x
onward_but M R alike {k = k} (same q) (line x p) = line x (onward_but M R alike {k = k + 1} q p)
onward_but M R alike (but r q) (line x p) = line (alike _ _ _ _ _ _ r x) (onward_but M R alike q p)
