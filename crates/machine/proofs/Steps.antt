-- A line that was answered by a number: what its step prints is what was spoken, nothing or a refusal.
use Prim.Native.Nat.{ℕ, ◌≤◌}
use mathlib.Core.Path.{◌≡◌, ap, ◌∙◌}
use mathlib.Core.Bool.{Bool, cond}
use mathlib.Core.List.{List, []}
use borrow.Author.Tests.{ne_eqb}
use Rattle.ground.specs.Areas.{Wrote}
use Rattle.ground.proofs.Areas.{wrote_text}
use Rattle.machine.specs.Rows.{Row}
use Rattle.machine.specs.Machine.{Machine, refusal, spoken}
use Rattle.machine.specs.Steps.{page_room, SteppedBy}

module _ {M : Machine} {S : Type 0} {held : M.State → S} {k w : ℕ} {s : M.State} {row : Row} {out later : List ℕ} {c : S} {a : ℕ} where
  pub answered : (t : M.State) (n : ℕ) → M.step k s row t (spoken k n) → c ≡ held t → a ≡ n → Wrote out 0 (spoken k a) w later → w ≤ page_room
      → SteppedBy M held k s row out c w later
  answered t n step is e p short = record { state = t; said = spoken k n; step = step; is = is; laid = wrote_text (ap (spoken k) e) p; short = short }

  pub refused : (t : M.State) (n : ℕ) → M.step k s row t (refusal k n) → c ≡ held t → a ≡ n → (a ≡ 0 → ⊥) → Wrote out 0 (spoken k a) w later → w ≤ page_room
      → SteppedBy M held k s row out c w later
  refused t n step is e z p short = record {
    state = t;
    said = refusal k n;
    step = step;
    is = is;
    laid = wrote_text (ap (λ (b : Bool). cond b [] (refusal k a)) (ne_eqb a 0 z) ∙ ap (refusal k) e) p;
    short = short;
  }
