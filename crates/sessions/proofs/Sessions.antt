-- The session of a position: its line at hand is what has come of the line, and a call takes it from one position to the next.
use Prim.Native.Nat.{ℕ, ◌+◌, ◌≤◌, ◌<◌}
use mathlib.Core.Path.{◌≡◌, sym, ap, ap₂, ◌∙◌, subst}
use mathlib.Core.Bool.{Bool, true, false}
use mathlib.Core.List.{List, [], ◌++◌}
use native.Mathlib.Omega.{arith}
use lib.ListN.{length, take}
use Rattle.machine.specs.Answers.{OneAnswer}
use Rattle.machine.specs.Pieces.{Position, in-line, start, line_in, Takes, none, FinishedBy}
use Rattle.machine.specs.Programs.{Kind, In, Runs, Steps, Stops}
use Rattle.machine.specs.AtHand.{row_of, empty, typed, is_none, line_cut_off, cut, cut_of}
use Rattle.machine.specs.declared.line.Line.{Line}
use Rattle.machine.proofs.AtHand.{typed_none, typed_number}
use Rattle.machine.proofs.Pieces.{takes_then, up_to-le, up_to_pos, cut_grown, fed_quiet, fed_line, finish_none, finish_line, takes_number}
use Rattle.machine.proofs.Outputs.{fed_one, finished_one}
use Rattle.sessions.specs.Sessions.{session_of, At, Feeds, FedTo, Took}
use Rattle.sessions.specs.declared.Session.{Session}
use Rattle.sessions.specs.declared.Fed.{Fed}

module _ {P : Type 0} (k : Kind P) where
  session_is : {l m : Line} {p q : P} → l ≡ m → p ≡ q → ◌≡◌ {A = Session P} (record { line = l; program = p }) (record { line = m; program = q })
  session_is e f = ap₂ (λ (l : Line) (p : P). record { line = l; program = p }) e f

  pub at_start : {l : Line} {p : P} → l ≡ empty 1 → In k p k.machine.start → At k (record { line = l; program = p }) (start k.machine)
  at_start e i = record { is = session_is (e ∙ typed_none 1) i.is; can = i.can }

  -- what is known of a session that stands somewhere

  module _ {d : Session P} where
    at_line : {n : ℕ} {s : k.machine.State} {begun : List ℕ} → At k d (in-line n s begun) → d.line ≡ typed n begun
    at_line a = ap (λ (x : Session P). x.line) a.is

    at_in : {n : ℕ} {s : k.machine.State} {begun : List ℕ} → At k d (in-line n s begun) → In k d.program s
    at_in a = record { is = ap (λ (x : Session P). x.program) a.is; can = a.can }

    pub at_runs : (p : Position k.machine) → At k d p → Runs k d.program
    at_runs (in-line n s begun) a = (s, at_in a)

    pub at_number : (p : Position k.machine) → At k d p → d.line.number ≡ line_in p
    at_number (in-line n s begun) a = typed_number n begun (at_line a)

    -- a piece that was cut

    module _ (piece : List ℕ) (l : Line) {used : ℕ} {ended : Bool} (is : cut l used ended ≡ cut_of d.line piece) where
      pub cut_number : (p : Position k.machine) → At k d p → l.number ≡ d.line.number
      cut_number (in-line n s begun) a =
          let g = cut_grown k.machine n s begun piece (at_line a) is in typed_number n g.whole g.line ∙ sym (typed_number n begun (at_line a))

      pub feed_quiet : (out : List ℕ) → ended ≡ false → Feeds k d piece out (record { line = l; program = d.program }) (record { used = used; wrote = 0 }) out
      feed_quiet out e (in-line n s begun) a =
          let g = cut_grown k.machine n s begun piece (at_line a) is in record {
            position = in-line n s g.whole;
            fed = fed_quiet g out e;
            session = record { is = session_is g.line (at_in a).is; can = a.can };
          }

      pub feed_line : {out later : List ℕ} {after : P} {w : ℕ} {next : Line} → ended ≡ true
          → Steps k d.program l.number (row_of l) out after w later → next ≡ empty (l.number + 1)
          → Feeds k d piece out (record { line = next; program = after }) (record { used = used; wrote = w }) later
      feed_line e steps q (in-line n s begun) a =
          let g = cut_grown k.machine n s begun piece (at_line a) is in
          let w = steps s (at_in a) in
          record {
            position = in-line (n + 1) w.by.state [];
            fed = fed_line g e w.by;
            session = record {
              is = session_is (q ∙ ap (λ (x : ℕ). empty (x + 1)) (typed_number n g.whole g.line) ∙ typed_none (n + 1)) w.by.is;
              can = w.can;
            };
          }

    -- the end of the input

    pub finish_quiet : (p : Position k.machine) {out later : List ℕ} {w : ℕ} → At k d p → is_none (row_of d.line) ≡ true → Stops k d.program out 0 w later
        → FinishedBy k.machine p out w later
    finish_quiet (in-line n s begun) a e stops = finish_none begun (at_line a) e (stops s (at_in a))

    module _ (m : Line) (is : m ≡ line_cut_off d.line) {out o : List ℕ} {t : P} {v : ℕ} (steps : Steps k d.program m.number (row_of m) out t v o) where
      -- where the last line leads
      last_in : {n : ℕ} {begun : List ℕ} (s : k.machine.State) (a : At k d (in-line n s begun)) → In k t (steps s (at_in a)).by.state
      last_in s a = let w = steps s (at_in a) in record { is = w.by.is; can = w.can }

      pub finish_last : (p : Position k.machine) {later : List ℕ} {w : ℕ} → At k d p → is_none (row_of d.line) ≡ false → length o ≡ length out
          → Stops k t o v w later → length later ≡ length out → FinishedBy k.machine p out w later
      finish_last (in-line n s begun) a e f stops g =
          finish_line begun (at_line a) e is (steps s (at_in a)).by f (stops (steps s (at_in a)).by.state (last_in s a)) g

  -- for a caller that goes on with the session behind it

  module _ {p : Position k.machine} where
    unfoldable pub took_none : {s : Session P} → At k s p → Took k p [] s
    took_none a = record { position = p; said = []; takes = none; at = a }

    pub took_number : {bytes : List ℕ} {s t : Session P} → At k s p → Took k p bytes t → t.line.number ≤ s.line.number + length bytes
    took_number a w = omega (arith, at_number p a, at_number w.position w.at, takes_number w.takes)

    module _ {bytes rest : List ℕ} {s t : Session P} (w : Took k p bytes s) where
      -- a call more on what follows
      unfoldable pub took_fed : {out later : List ℕ} {r : Fed} → FedTo k w.position rest out t r later → Took k p (bytes ++ take r.used rest) t
      took_fed {r = r} f = record {
        position = f.position;
        said = w.said ++ f.fed.said;
        takes = takes_then w.takes (subst (λ (n : ℕ). Takes k.machine w.position (take n rest) f.position f.fed.said) (sym f.fed.used) f.fed.takes);
        at = f.session;
      }

      unfoldable pub took_then : Took k w.position rest t → Took k p (bytes ++ rest) t
      took_then v = record { position = v.position; said = w.said ++ v.said; takes = takes_then w.takes v.takes; at = v.at }

      pub fed_some : {out later : List ℕ} {r : Fed} → FedTo k w.position rest out t r later → 0 < length rest → 0 < r.used
      fed_some f h = omega (arith, f.fed.used, up_to_pos rest h)

      pub fed_within : {out later : List ℕ} {r : Fed} → FedTo k w.position rest out t r later → r.used ≤ length rest
      fed_within f = omega (arith, f.fed.used, up_to-le rest)

  -- NO TWO RETURNS of `feed` and of `finish`, where a line in a state has one answer (`Program::one_answer`)

  module _ (one : OneAnswer k.machine) {p : Position k.machine} {out o₁ o₂ : List ℕ} where
    pub feed_settled : {piece : List ℕ} {s t : Session P} {r q : Fed} → FedTo k p piece out s r o₁ → FedTo k p piece out t q o₂ → (s ≡ t) × (r ≡ q) × (o₁ ≡ o₂)
    feed_settled f g =
        let t = fed_one one f.fed g.fed in
        (f.session.is ∙ ap (session_of k) t.0 ∙ sym g.session.is, λ i. record { used = t.1 i; wrote = t.2 i }, t.3)

    pub finish_settled : {r q : ℕ} → FinishedBy k.machine p out r o₁ → FinishedBy k.machine p out q o₂ → (r ≡ q) × (o₁ ≡ o₂)
    finish_settled f g = finished_one one f g
