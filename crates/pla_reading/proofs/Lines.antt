-- One line after another: what is kept leads on to the lines that are left, as the run over the text does, and what stops it is the run's outcome.
use Prim.Native.Nat.{ℕ, ◌+◌, ◌-◌, ◌≤◌, ◌<◌}
use mathlib.Core.Path.{◌≡◌, refl, sym, ap, ap₂, subst, ◌∙◌}
use mathlib.Core.Bool.{cond}
use mathlib.Core.List.{List, [], ◌∷◌}
use native.Mathlib.Omega.{arith}
use lib.Dec.{leb}
use lib.ListN.{length, drop, drop_of_length-le, length-drop}
use lib.Seq.{drop-drop}
use borrow.Author.Tests.{le-leb, lt-leb}
use Rattle.ground.proofs.Cases.{below_or}
use Rattle.sheet.specs.Limits.{most_marks, entries}
use Rattle.stored.specs.Fields.{Outcome, refused}
use Rattle.stored.specs.Answers.{read_of}
use Rattle.std.specs.Prelude.{Result, Ok, Err, IsErrAnd}
use Rattle.refusals.specs.Numbers.{number_of, place_of}
use Rattle.refusals.specs.declared.Refusal.{Refusal}
use Rattle.sheet.specs.Answers.{refused as refused_sheet}
use Rattle.sheet.specs.declared.Refused.{Refused as Refused_sheet}
use Rattle.sheet.specs.declared.Sheet.{Sheet}
use Rattle.stored.specs.Told.{Read, read_as}
use Rattle.pla.specs.Texts.{between_from, before_comment, filled, lines_of, words_of}
use Rattle.pla.specs.Sayings.{Saying, blank, inputs, output, count, cube, end, Says, no_word, dot_i, dot_o, dot_p, drawn, dot_e}
use Rattle.pla.specs.Reading.{Said as Saids, nothing_said, comes_to, Run, over, unreadable, stopped, taken, PlaSays}
use Rattle.pla.specs.Answers.{ReadsPla}
use Rattle.pla_lines.specs.Lines.{first_line, words_in}
use Rattle.pla_lines.specs.Parts.{heard_as, Hears, said, unsaid}
use Rattle.pla_lines.specs.declared.Heard.{Heard}
use Rattle.pla_lines.proofs.FirstLine.{line_inside, lines_one, lines_first}
use Rattle.pla_reading.specs.declared.said.Said.{Said}
use Rattle.pla_reading.specs.Parts.{Next, On, Ends, Refused, Keeps, Leads, goes, ends, stops, InBoxes, Judged}

-- the lines from an offset on
pub lines_left : List ℕ → ℕ → List (List ℕ)
lines_left t at = cond (leb at (length t)) (lines_of (drop at t)) []

left_inside : (t : List ℕ) (at : ℕ) → at ≤ length t → lines_left t at ≡ lines_of (drop at t)
unfolding lines_left
left_inside t at h = rw (le-leb at (length t) h)

left_none : (t : List ℕ) (at : ℕ) → length t < at → lines_left t at ≡ []
unfolding lines_left
left_none t at h = rw (lt-leb at (length t) h)

-- the first of them, and those behind it
left_first : (t : List ℕ) (at : ℕ) → at ≤ length t
    → lines_left t at ≡ first_line (drop at t) ∷ lines_left t (at + length (first_line (drop at t)) + 1)
left_first t at h =
    let u = drop at t in
    let n = length (first_line u) in
    let size : length u ≡ length t - at = length-drop at t in
    let next : at + (n + 1) ≡ at + n + 1 = omega arith in
    below_or n (length u)
    (λ l. left_inside t at h ∙ lines_first u l
    ∙ ap (λ (x : List (List ℕ)). first_line u ∷ x) (ap lines_of (drop-drop (n + 1) at t ∙ ap (λ (x : ℕ). drop x t) next) ∙ sym (left_inside t (at + n + 1) (omega (arith, l, size, h)))))
    (λ l. left_inside t at h ∙ lines_one u (omega (arith, l, line_inside u))
    ∙ ap (λ (x : List (List ℕ)). first_line u ∷ x) (sym (left_none t (at + n + 1) (omega (arith, l, size, h)))))

-- what was read up to an offset: what the lines so far have said, of which k is kept
pub record Reached (t : List ℕ) (k : Said) (at : ℕ) : Type 0 where
  pub so_far : Saids
  pub kept : Keeps so_far k
  pub few : length so_far.cubes ≤ at
  pub inside : at ≤ length t + 1
  pub leads : (o : Outcome) → Run most_marks (length t) so_far at (lines_left t at) o → PlaSays most_marks t o

pub reached_none : (t : List ℕ) (k : Said) → Keeps nothing_said k → Reached t k 0
reached_none t k kept = record {
  so_far = nothing_said;
  kept = kept;
  few = omega arith;
  inside = omega arith;
  leads = λ o r. record { run = subst (λ (l : List (List ℕ)). Run most_marks (length t) nothing_said 0 l o) (left_inside t 0 (omega arith)) r };
}

pub cubes_few : {t : List ℕ} {k : Said} {at : ℕ} → Reached t k at → k.cubes ≤ length t + 1
cubes_few r = omega (arith, r.kept.cubes, r.few, r.inside)

pub marks_few : {t : List ℕ} {k : Said} {at : ℕ} → Reached t k at → k.inputs ≤ most_marks
marks_few r = omega (arith, r.kept.inputs, r.kept.most)

-- what is heard is a box of the inputs
pub in-boxes : {m : ℕ} {ws : List (List ℕ)} {h : Heard} → Hears m ws h → InBoxes m h
in-boxes {m} (said y e) = subst (InBoxes m) (sym e) (of_saying y)
  where
    of_saying : {m : ℕ} {ws : List (List ℕ)} {x : Saying} → Says m ws x → InBoxes m (heard_as x)
    of_saying (no_word e) = tt
    of_saying (dot_i e) = tt
    of_saying (dot_o e) = tt
    of_saying (dot_p e) = tt
    of_saying (drawn l e) = l
    of_saying (dot_e e) = tt
in-boxes {m} (unsaid n e) = subst (InBoxes m) (sym e) tt

-- what it leads to
leads_of : (s : Saids) (k : Said) (at : ℕ) (x : Saying) (r : Next) → Judged k at (heard_as x) r → Keeps s k → Leads s at x r
leads_of s k at blank r j kept = j s kept
leads_of s k at (inputs n) r j kept = j n refl s kept
leads_of s k at output r j kept = j s kept
leads_of s k at (count n) r j kept = j n refl s kept
leads_of s k at (cube b) r j kept = j s kept
leads_of s k at end r j kept = j s kept

same_on : {k u : Said} → On k ≡ On u → k ≡ u
same_on e = cc

same_refused : {n p m q : ℕ} → Refused n p ≡ Refused m q → (n ≡ m) × (p ≡ q)
same_refused e = (cc, cc)

on_not_end : {k : Said} → On k ≡ Ends → ⊥
on_not_end {k} e = let z : ◌≡◌ {A = ℕ} 0 1 = cc in omega arith

on_not_refused : {k : Said} {n p : ℕ} → On k ≡ Refused n p → ⊥
on_not_refused {k} e = let z : ◌≡◌ {A = ℕ} 0 1 = cc in omega arith

end_not_refused : {n p : ℕ} → Ends ≡ Refused n p → ⊥
end_not_refused e = let z : ◌≡◌ {A = ℕ} 0 1 = cc in omega arith

-- the line at an offset, of which h was heard, and which leads to r
module _ (t : List ℕ) (k : Said) (at : ℕ) (h : Heard) (r : Next) (reached : Reached t k at) (here : at < length t)
    (heard : Hears k.inputs (words_in (drop at t)) h) (judged : Judged k at h r) where
  abbrev s : Saids
  s = reached.so_far

  abbrev line : List ℕ
  line = first_line (drop at t)

  abbrev rest : List (List ℕ)
  rest = lines_left t (at + length line + 1)

  -- the run over the lines that are left is one over the text
  leads_line : (o : Outcome) → Run most_marks (length t) s at (line ∷ rest) o → PlaSays most_marks t o
  leads_line o x = reached.leads o (subst (λ (l : List (List ℕ)). Run most_marks (length t) s at l o) (sym (left_first t at (omega (arith, here)))) x)

  -- the line says x, or nothing
  by_line : {P : Type 0} → ((x : Saying) → Says s.inputs (words_of line) x → Leads s at x r → P)
      → (((x : Saying) → Says s.inputs (words_of line) x → ⊥) → r ≡ Refused 10 at → P) → P
  by_line {P} if-said if-not = go heard
    where
      go : Hears k.inputs (words_in (drop at t)) h → P
      go (said {x = x} y e) =
          if-said x (subst (λ (m : ℕ). Says m (words_of line) x) reached.kept.inputs y)
          (leads_of s k at x r (subst (λ (g : Heard). Judged k at g r) e judged) reached.kept)
      go (unsaid n e) =
          if-not (λ x y. n x (subst (λ (m : ℕ). Says m (words_of line) x) (sym reached.kept.inputs) y)) (subst (λ (g : Heard). Judged k at g r) e judged)

  pub line_refused : (n p : ℕ) → r ≡ Refused n p → PlaSays most_marks t (refused n p)
  line_refused n p e = by_line
      (λ x y l. stopped_by x y l e)
      (λ none q. let w = same_refused (sym q ∙ e) in
      subst (λ (z : Outcome). PlaSays most_marks t z) (ap₂ refused w.0 w.1) (leads_line (refused 10 at) (unreadable none)))
    where
      stopped_by : {r : Next} (x : Saying) → Says s.inputs (words_of line) x → Leads s at x r → r ≡ Refused n p → PlaSays most_marks t (refused n p)
      stopped_by x y (goes g f kept) e = absurd (on_not_refused e)
      stopped_by x y (ends z) e = absurd (end_not_refused e)
      stopped_by x y (stops g) e =
          let w = same_refused e in
          subst (λ (z : Outcome). PlaSays most_marks t z) (ap₂ refused w.0 w.1) (leads_line _ (stopped y (g (length t))))

  pub line_ends : r ≡ Ends → PlaSays most_marks t (comes_to (length t) s)
  line_ends e = by_line (λ x y l. ended_by x y l e) (λ none q. absurd (end_not_refused (sym e ∙ q)))
    where
      ended_by : {r : Next} (x : Saying) → Says s.inputs (words_of line) x → Leads s at x r → r ≡ Ends → PlaSays most_marks t (comes_to (length t) s)
      ended_by x y (goes g f kept) e = absurd (on_not_end e)
      ended_by x y (ends z) e = leads_line _ (stopped (subst (Says s.inputs (words_of line)) z y) refl)
      ended_by x y (stops g) e = absurd (end_not_refused (sym e))

  pub line_taken : (u : Said) → r ≡ On u → Reached t u (at + length line + 1)
  line_taken u e = by_line (λ x y l. taken_by x y l e) (λ none q. absurd (on_not_refused (sym e ∙ q)))
    where
      taken_by : {r : Next} (x : Saying) → Says s.inputs (words_of line) x → Leads s at x r → r ≡ On u → Reached t u (at + length line + 1)
      taken_by x y (goes {u = z} g f kept) e = record {
        so_far = z;
        kept = subst (Keeps z) (same_on e) kept;
        few = omega (arith, f, reached.few);
        inside = omega (arith, line_inside (drop at t), length-drop at t, here);
        leads = λ o x. leads_line o (taken y (g (length t)) x);
      }
      taken_by x y (ends z) e = absurd (on_not_end (sym e))
      taken_by x y (stops g) e = absurd (on_not_refused (sym e))

-- the end of the input
pub all_read : (t : List ℕ) (k : Said) (at : ℕ) → (reached : Reached t k at) → length t ≤ at → PlaSays most_marks t (comes_to (length t) reached.so_far)
unfolding between_from before_comment filled
all_read t k at reached h = reached.leads _ (below_or (length t) at
    (λ l. subst (λ (ls : List (List ℕ)). Run most_marks (length t) reached.so_far at ls (comes_to (length t) reached.so_far)) (sym (left_none t at l)) over)
    (λ l. subst (λ (ls : List (List ℕ)). Run most_marks (length t) reached.so_far at ls (comes_to (length t) reached.so_far))
    (sym (left_inside t at (omega (arith, h, l)) ∙ ap lines_of (drop_of_length-le t h))) one_blank))
  where
    one_blank : Run most_marks (length t) reached.so_far at (lines_of []) (comes_to (length t) reached.so_far)
    one_blank = taken {line = []} {rest = []} (no_word refl) refl over

-- an answer is that of what the text says
pub answered : {t : List ℕ} {a : Read} (o : Outcome) → PlaSays most_marks t o → a ≡ read_of entries o → ReadsPla most_marks entries t a
answered o p e = record { outcome = o; run = p; is = e }

-- what a `?` passes on
pub refusal_read : {t : List ℕ} (result : Result Sheet Refused_sheet) (e : Refusal) → IsErrAnd result (λ r. r ≡ refused_sheet entries e)
    → PlaSays most_marks t (refused (number_of e) (place_of e)) → ReadsPla most_marks entries t (read_as result)
refusal_read (Ok s) e p w = absurd p
refusal_read (Err r) e p w = answered _ w (ap (λ (x : Refused_sheet). read_as (Err x)) p)
