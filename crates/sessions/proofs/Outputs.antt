-- WHAT A SESSION HAS PRINTED IS THE OUTPUT of what it took: at the end of the input, and, once the program is over, whatever follows.
use Prim.Native.Nat.{ℕ, ◌+◌}
use mathlib.Core.Path.{◌≡◌, sym, ap, ◌∙◌, subst}
use mathlib.Core.Bool.{true}
use mathlib.Core.List.{List, [], ◌∷◌, ◌++◌, append-nil, flatten}
use Rattle.ground.proofs.Cases.{same_or}
use Rattle.machine.specs.Machine.{Output}
use Rattle.machine.specs.Pieces.{Position, in-line, start, Takes, none, byte, newline, Finishes, ended, cut_off, done, piece}
use Rattle.machine.specs.Programs.{Kind, SilentWhenOver}
use Rattle.machine.proofs.Pieces.{any_pieces}
use Rattle.sessions.specs.Sessions.{session_of, At, Took}
use Rattle.sessions.specs.declared.Session.{Session}

module _ {P : Type 0} (k : Kind P) where
  -- behind the line with which the program is over
  silent_takes : SilentWhenOver k → (rest : List ℕ) (n : ℕ) (s : k.machine.State) (begun : List ℕ) → k.over (k.held s) ≡ true
      → (q : Position k.machine) × Takes k.machine (in-line n s begun) rest q [] × Finishes k.machine q []
  silent_takes silent [] n s [] o = (in-line n s [], none, ended (silent s o).stop)
  silent_takes silent [] n s (b ∷ begun) o =
      let t = (silent s o).step n _ in (in-line n s (b ∷ begun), none, cut_off t.1 (silent t.0 t.2).stop)
  silent_takes silent (b ∷ rest) n s begun o =
      same_or b 10
      (λ e. let t = (silent s o).step n _ in
      let w = silent_takes silent rest (n + 1) t.0 [] t.2 in
      (w.0, subst (λ (x : ℕ). Takes k.machine (in-line n s begun) (x ∷ rest) w.0 []) (sym e) (newline t.1 w.1), w.2))
      (λ d. let w = silent_takes silent rest n s (begun ++ b ∷ []) o in (w.0, byte d w.1, w.2))

  at_over : {d : Session P} (p : Position k.machine) → At k d p → k.over d.program ≡ true → k.over (session_of k p).program ≡ true
  at_over p a o = ap (λ (x : Session P). k.over x.program) (sym a.is) ∙ o

  goes_silent : SilentWhenOver k → {d : Session P} (p : Position k.machine) → At k d p → k.over d.program ≡ true → (rest : List ℕ)
      → (q : Position k.machine) × Takes k.machine p rest q [] × Finishes k.machine q []
  goes_silent silent (in-line n s begun) a o rest = silent_takes silent rest n s begun (at_over (in-line n s begun) a o)

  module _ {bytes : List ℕ} {d : Session P} (w : Took k (start k.machine) bytes d) where
    pub output_over : SilentWhenOver k → k.over d.program ≡ true → (rest : List ℕ) → Output k.machine (bytes ++ rest) w.said
    unfolding flatten
    output_over silent o rest =
        let t = goes_silent silent w.position w.at o rest in
        let whole = any_pieces k.machine (bytes ∷ rest ∷ []) (w.said ++ ([] ++ [])) (piece w.takes (piece t.1 (done t.2))) in
        subst (λ (l : List ℕ). Output k.machine (bytes ++ rest) l) (append-nil w.said)
        (subst (λ (l : List ℕ). Output k.machine (bytes ++ l) (w.said ++ [])) (append-nil rest) whole)

    pub output_end : {text : List ℕ} → Finishes k.machine w.position text → Output k.machine bytes (w.said ++ text)
    unfolding flatten
    output_end {text} f =
        subst (λ (l : List ℕ). Output k.machine l (w.said ++ text)) (append-nil bytes) (any_pieces k.machine (bytes ∷ []) (w.said ++ text) (piece w.takes (done f)))
