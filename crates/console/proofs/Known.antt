-- What was read and written, piece by piece.
use borrow.Author.Tests.{eqb-true, eqb-false}
use Rattle.std.specs.Prelude.{Result, Option, Bool, List, [], ◌++◌, ◌≡◌, ◌<◌, ◌≤◌, ◌+◌, ℕ, length, take, drop, eqb, OnOk, true, false}
use Rattle.std.proofs.Common.{Ok, Err, sym, ap, ◌∙◌, subst, append_assoc, append-nil, length-append, inl, inr, arith}
use Rattle.std.proofs.lemmas.List.{take-append-drop, nil_from_length}
use Rattle.std.specs.Io.KnownBytes.{Consumes, Appends}
use Rattle.std.proofs.KnownBytes.{Appends-nil, Appends-trans, Consumes-nil, Consumes-trans}
use Rattle.ground.proofs.Areas.{wrote_front}
use Rattle.machine.specs.Machine.{Output}
use Rattle.machine.specs.Pieces.{Position, start, FinishedBy}
use Rattle.machine.specs.Programs.{Kind, SilentWhenOver}
use Rattle.sessions.specs.Sessions.{At, FedTo}
use Rattle.sessions.specs.declared.Session.{Session}
use Rattle.sessions.specs.declared.Fed.{Fed}
use Rattle.sessions.proofs.Sessions.{took_none, took_fed, took_then, took_number}
use Rattle.sessions.proofs.Outputs.{output_over, output_end}
use Rattle.console.specs.Serves.{Fetched, Passed, Served, Closed, Runs, Serves}

pub on_ok : {T E : Type 0} {A B : Type 0} → (A → B) → (r : Result T E) → OnOk r A → OnOk r B
on_ok f (Ok x) a = f a
on_ok f (Err e) a = tt

-- a rest that is empty, and one that is not
pub no_rest : (rest : List ℕ) {b : Bool} → b ≡ eqb (length rest) 0 → b ≡ true → rest ≡ []
no_rest rest e t = nil_from_length rest (eqb-true (length rest) 0 (sym e ∙ t))

pub some_rest : (rest : List ℕ) {b : Bool} → b ≡ eqb (length rest) 0 → b ≡ false → 0 < length rest
some_rest rest e t = let n = eqb-false (length rest) 0 (sym e ∙ t) in omega (arith, n)

-- what a call used of the rest goes over to what was taken
pub behind_taken : (piece taken rest behind : List ℕ) (u : ℕ) → piece ≡ taken ++ rest → behind ≡ drop u rest → piece ≡ (taken ++ take u rest) ++ behind
behind_taken piece taken rest behind u e b =
    e ∙ ap (λ (l : List ℕ). taken ++ l) (sym (take-append-drop u rest) ∙ ap (λ (l : List ℕ). take u rest ++ l) (sym b)) ∙ sym (append_assoc taken (take u rest) behind)

module _ {P : Type 0} (k : Kind P) where
  module _ {p : Position k.machine} where
    pub passed_none : {s : Session P} (held : Option (List ℕ)) → At k s p → Passed k p [] s held held
    unfolding took_none
    passed_none held a = record { took = took_none k a; wrote = Appends-nil held }

    pub passed_fed : {taken rest out later : List ℕ} {s t : Session P} {r : Fed} (held now after : Option (List ℕ)) (w : Passed k p taken s held now)
        → FedTo k w.took.position rest out t r later → Appends now after (take r.wrote later) → Passed k p (taken ++ take r.used rest) t held after
    unfolding took_fed
    passed_fed held now after w f wrote = record {
      took = took_fed k w.took f;
      wrote = Appends-trans held now after _ _ w.wrote (subst (Appends now after) (wrote_front f.fed.laid).0 wrote);
    }

    pub closed : {out later : List ℕ} {n : ℕ} {held now : Option (List ℕ)} → FinishedBy k.machine p out n later → Appends held now (take n later) → Closed k p held now
    closed {held = held} {now = now} f wrote = record { text = f.said; finishes = f.finishes; wrote = subst (Appends held now) (wrote_front f.laid).0 wrote }

    pub served : {piece taken rest : List ℕ} {s : Session P} {held now : Option (List ℕ)} → piece ≡ taken ++ rest → Passed k p taken s held now
        → (k.over s.program ≡ false → rest ≡ []) → Served k p piece s held now
    served is w all = record { taken = _; rest = _; is = is; passed = w; all = all }

  -- the whole run

  pub runs_none : {s : Session P} (left held : Option (List ℕ)) → At k s (start k.machine) → Runs k s left left held held
  runs_none left held a = record { input = []; read = Consumes-nil left; passed = passed_none held a }

  module _ {s : Session P} {left later held now : Option (List ℕ)} (r : Runs k s left later held now) where
    pub runs_at : At k s r.passed.took.position
    runs_at = r.passed.took.at

    module _ {t : Session P} {piece : List ℕ} (behind after : Option (List ℕ)) (read : Consumes later behind piece) (v : Served k r.passed.took.position piece t now after) where
      pub whole : k.over t.program ≡ false → piece ≡ v.taken
      whole o = v.is ∙ ap (λ (l : List ℕ). v.taken ++ l) (v.all o) ∙ append-nil v.taken

      unfoldable pub runs_more : k.over t.program ≡ false → Runs k t left behind held after
      unfolding took_then
      runs_more o = record {
        input = r.input ++ v.taken;
        read = Consumes-trans left later behind _ _ r.read (subst (Consumes later behind) (whole o) read);
        passed = record { took = took_then k r.passed.took v.passed.took; wrote = Appends-trans held now after _ _ r.passed.wrote v.passed.wrote };
      }

      -- by as much as was read
      pub runs_longer : (o : k.over t.program ≡ false) → length (runs_more o).input ≡ length r.input + length piece
      unfolding runs_more
      runs_longer o = length-append r.input v.taken ∙ ap (λ (l : List ℕ). length r.input + length l) (sym (whole o))

      -- the program is over: what is left of the piece, and of the input, prints nothing
      pub serves_over : SilentWhenOver k → k.over t.program ≡ true → Serves k left behind held after
      unfolding took_then
      serves_over silent o =
          let w = took_then k r.passed.took v.passed.took in
          let out = output_over k w silent o in
          let is : (r.input ++ v.taken) ++ v.rest ≡ r.input ++ piece = append_assoc r.input v.taken v.rest ∙ ap (λ (l : List ℕ). r.input ++ l) (sym v.is) in
          record {
            input = r.input ++ piece;
            output = w.said;
            read = Consumes-trans left later behind _ _ r.read read;
            wrote = Appends-trans held now after _ _ r.passed.wrote v.passed.wrote;
            prints = subst (λ (l : List ℕ). Output k.machine l w.said) is (out v.rest);
            ends = inr (λ rest. subst (λ (l : List ℕ). Output k.machine l w.said) (sym (append_assoc (r.input ++ v.taken) v.rest rest) ∙ ap (λ (l : List ℕ). l ++ rest) is) (out (v.rest ++ rest)));
          }

    -- the input is at its end
    pub serves_end : {after behind : Option (List ℕ)} (n : ℕ) (piece : List ℕ) → n ≡ 0 → 0 < length piece → Fetched n piece later behind
        → Closed k r.passed.took.position now after → Serves k left behind held after
    serves_end {after} {behind} n piece z some f c =
        let read : Consumes later behind [] = subst (λ (m : ℕ). Consumes later behind (take m piece)) z f.0 in
        record {
          input = r.input;
          output = r.passed.took.said ++ c.text;
          read = subst (Consumes left behind) (append-nil r.input) (Consumes-trans left later behind _ _ r.read read);
          wrote = Appends-trans held now after _ _ r.passed.wrote c.wrote;
          prints = output_end k r.passed.took c.finishes;
          ends = inl (f.1 z some);
        }

  -- a session counts at most as many lines as it is served bytes
  pub served_number : {p : Position k.machine} {piece : List ℕ} {s t : Session P} {held now : Option (List ℕ)} → At k s p → Served k p piece t held now
      → t.line.number ≤ s.line.number + length piece
  served_number a v = omega (arith, took_number k a v.passed.took, ap length v.is, length-append v.taken v.rest)
