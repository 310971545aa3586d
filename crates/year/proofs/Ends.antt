-- WHAT IS PRINTED ENDS WITH THE ROWS of the history that the session has when the input stops: a last line without newline books nothing, and behind `end`
-- nothing comes.
use Prim.Native.Nat.{ℕ, ◌+◌}
use mathlib.Core.Path.{◌≡◌, refl, sym, ap, ◌∙◌, subst}
use mathlib.Core.Bool.{Bool}
use mathlib.Core.List.{List, [], ◌∷◌, ◌++◌, append_assoc, append-nil, flatten}
use native.Mathlib.Omega.{arith}
use Rattle.ground.specs.Texts.{ascii}
use Rattle.ground.proofs.Cases.{same_or}
use Rattle.dates.proofs.Dated.{dated_long}
use Rattle.machine.specs.Rows.{judged}
use Rattle.machine.specs.Machine.{refusal}
use Rattle.machine.specs.Pieces.{Position, in-line, start, Takes, none, byte, newline, Finishes, done, piece}
use Rattle.machine.proofs.Pieces.{any_pieces}
use Rattle.lines.specs.declared.Order.TheVariants.{End}
use Rattle.lines.specs.Words.{said, ends}
use Rattle.year_lines.specs.declared.Slip.TheVariants.{Plain}
use Rattle.year_lines.specs.Slips.{RowAsks, plain}
use Rattle.bookings.specs.Bookings.{History}
use Rattle.year.specs.Prints.{page, going, over, unread, ended, Step, Stop, months, Prints}
use Rattle.year.specs.Heard.{EndsWith}
use Rattle.year.proofs.Outputs.{exactly_one}

-- an input that was taken in two pieces and then stopped has no other output
one_end : (a b : List ℕ) {q r : Position months} {x y z output : List ℕ} → Takes months (start months) a q x → Takes months q b r y → Finishes months r z
    → Prints (a ++ b) output → output ≡ x ++ (y ++ z)
unfolding flatten
one_end a b {x = x} {y} {z} {output} p t f made =
    let whole : Prints (a ++ b) (x ++ (y ++ z)) =
    subst (λ (l : List ℕ). Prints (a ++ l) (x ++ (y ++ z))) (append-nil b) (any_pieces months (a ∷ b ∷ []) (x ++ (y ++ z)) (piece p (piece t (done f)))) in
    let only = exactly_one (a ++ b) in
    only.2 output made ∙ sym (only.2 (x ++ (y ++ z)) whole)

module _ {k : ℕ} {b : Bool} {h : History} where
  -- the input stops in a line or behind one
  finishes_rows : (begun : List ℕ) → (text : List ℕ) × Finishes months (in-line k (going b h) begun) text × EndsWith (page h) text
  finishes_rows [] = (page h, Finishes.ended Stop.rows, ([], refl))
  finishes_rows (c ∷ rest) = (refusal k 10 ++ page h, Finishes.cut_off (unread RowAsks.lost) Stop.rows, (refusal k 10, refl))

  pub rows_at_stop : (input : List ℕ) {begun said output : List ℕ} → Takes months (start months) input (in-line k (going b h) begun) said → Prints input output
      → EndsWith (page h) output
  rows_at_stop input {begun} {said} {output} t made =
      let f = finishes_rows begun in
      let is = one_end input [] t none f.1 (subst (λ (l : List ℕ). Prints l output) (sym (append-nil input)) made) in
      (said ++ f.2.0, is ∙ ap (λ (l : List ℕ). said ++ l) f.2.1 ∙ sym (append_assoc said f.2.0 (page h)))

-- nothing comes behind `end`

over_takes : (h : History) (rest : List ℕ) (k : ℕ) (begun : List ℕ) → (q : Position months) × Takes months (in-line k (over h) begun) rest q [] × Finishes months q []
over_takes h [] k [] = (in-line k (over h) [], none, Finishes.ended Stop.silent)
over_takes h [] k (c ∷ begun) = (in-line k (over h) (c ∷ begun), none, Finishes.cut_off Step.silent Stop.silent)
over_takes h (c ∷ rest) k begun =
    same_or c 10
    (λ e. let w = over_takes h rest (k + 1) [] in
    (w.0, subst (λ (x : ℕ). Takes months (in-line k (over h) begun) (x ∷ rest) w.0 []) (sym e) (newline Step.silent w.1), w.2))
    (λ n. let w = over_takes h rest k (begun ++ c ∷ []) in (w.0, byte n w.1, w.2))

end_asked : (m : ℕ) → RowAsks m (judged (ascii "end")) (Plain End)
unfolding judged
end_asked m = RowAsks.read {line = ascii "end"} (plain (λ d c f s. omega (arith, dated_long s.date)) (said (ends refl)))

pub rows_at_end : {k : ℕ} {b : Bool} {h : History} (input rest : List ℕ) {said output : List ℕ} → Takes months (start months) input (in-line k (going b h) []) said
    → Prints (input ++ (ascii "end\n" ++ rest)) output → EndsWith (page h) output
rows_at_end {k} {b} {h} input rest {said} t made =
    let w = over_takes h rest (k + 1) [] in
    let e : Takes months (in-line k (going b h) []) (ascii "end\n" ++ rest) w.0 (page h ++ []) =
    byte (λ (z : ◌≡◌ {A = ℕ} 101 10). omega arith) (byte (λ (z : ◌≡◌ {A = ℕ} 110 10). omega arith) (byte (λ (z : ◌≡◌ {A = ℕ} 100 10). omega arith) (newline (ended (end_asked h.marks)) w.1))) in
    (said, one_end input (ascii "end\n" ++ rest) t e w.2 made ∙ ap (λ (l : List ℕ). said ++ l) (append-nil (page h ++ []) ∙ append-nil (page h)))
