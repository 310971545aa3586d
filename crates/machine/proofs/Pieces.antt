-- WHAT A MACHINE PRINTS IS ITS `Output`, however the input is cut in pieces; and what a line is answered is out when its newline is in. Bytes that
-- are taken, with what is yet printed behind them, print what the whole does (`yet_takes`).
use Prim.Native.Nat.{ℕ, suc, ◌+◌, ◌-◌, ◌<◌, ◌≤◌}
use mathlib.Core.Path.{◌≡◌, refl, sym, ap, ◌∙◌, subst}
use mathlib.Core.Bool.{true, false}
use mathlib.Core.List.{List, [], ◌∷◌, ◌++◌, flatten, append_assoc, append-nil}
use native.Mathlib.Omega.{arith}
use lib.Dec.{eqb}
use lib.ListN.{length, take, drop, length-drop}
use lib.Seq.{take_all, take-add}
use borrow.Author.Tests.{eqb-true, eqb-false, ne_eqb}
use Rattle.ground.proofs.Cases.{if, clash}
use Rattle.ground.proofs.Areas.{wrote_none}
use Rattle.machine.specs.Rows.{Row, judged, rows_from, rows}
use Rattle.machine.specs.Machine.{Machine, Onward, stopped, line, Output}
use Rattle.machine.specs.Pieces.{Position, in-line, start, line_in, Takes, none, byte, newline, Finishes, ended, cut_off, InPieces, done, piece, up_to_newline, FedBy, FinishedBy}
use Rattle.machine.specs.Steps.{SteppedBy, StoppedBy}
use Rattle.machine.specs.declared.line.Line.{Line}
use Rattle.machine.specs.AtHand.{row_of, typed, is_none, line_cut_off, cut_of, Cut}
use Rattle.machine.proofs.AtHand.{typed_more, typed_row, typed_number, none_judged, row_long}
use Rattle.machine.proofs.Laid.{wrote_behind}

rows_byte : (begun : List ℕ) (b : ℕ) (rest : List ℕ) → (b ≡ 10 → ⊥) → rows_from begun (b ∷ rest) ≡ rows_from (begun ++ b ∷ []) rest
unfolding rows_from
rows_byte begun b rest n = rw (ne_eqb b 10 n)

rows_newline : (begun rest : List ℕ) → rows_from begun (10 ∷ rest) ≡ judged begun ∷ rows rest
unfolding rows_from
rows_newline begun rest = refl

-- what is yet printed from a position on, where `rest` is all that follows
data Yet (M : Machine) : Position M → List ℕ → List ℕ → Type 0 where
  yet : {k : ℕ} {s : M.State} {begun rest text : List ℕ} → Onward M k s (rows_from begun rest) text → Yet M (in-line k s begun) rest text

module _ {M : Machine} where
  -- bytes taken in two goes
  pub takes_then : {p q r : Position M} {a b x y : List ℕ} → Takes M p a q x → Takes M q b r y → Takes M p (a ++ b) r (x ++ y)
  takes_then none q = q
  takes_then (byte n p) q = byte n (takes_then p q)
  takes_then {p} {r = r} {b = b} {y = y} (newline {rest = rest} {now = now} {later = later} e t) q =
      subst (λ (l : List ℕ). Takes M p (10 ∷ (rest ++ b)) r l) (sym (append_assoc now later y)) (newline e (takes_then t q))

  onward : {k : ℕ} {s : M.State} {begun rest text : List ℕ} → Yet M (in-line k s begun) rest text → Onward M k s (rows_from begun rest) text
  onward (yet y) = y

  yet_takes : {p q : Position M} {a said rest text : List ℕ} → Takes M p a q said → Yet M q rest text → Yet M p (a ++ rest) (said ++ text)
  yet_takes none y = y
  yet_takes {rest = rest} {text = text} (byte {k} {b} {s} {begun} {rest = a} {said = said} n p) y =
      yet (subst (λ (l : List Row). Onward M k s l (said ++ text)) (sym (rows_byte begun b (a ++ rest) n)) (onward (yet_takes p y)))
  yet_takes {rest = rest} {text = text} (newline {k} {s} {begun = begun} {rest = a} {now = now} {later = later} e p) y =
      yet (subst (λ (l : List Row). Onward M k s l ((now ++ later) ++ text)) (sym (rows_newline begun (a ++ rest)))
      (subst (λ (l : List ℕ). Onward M k s (judged begun ∷ rows (a ++ rest)) l) (sym (append_assoc now later text)) (line e (onward (yet_takes p y)))))

  yet_finishes : {p : Position M} {text : List ℕ} → Finishes M p text → Yet M p [] text
  unfolding rows_from
  yet_finishes (ended t) = yet (stopped t)
  yet_finishes (cut_off {k} {b} {s} {begun = begun} {now = now} {text = text} e t) =
      yet {k = k} {s = s} {begun = b ∷ begun} {rest = []} {text = now ++ text} (rw (ne_eqb (suc (length begun)) 0 (λ z. omega arith)) (line e (stopped t)))

  yet_pieces : {p : Position M} {pieces : List (List ℕ)} {text : List ℕ} → InPieces M p pieces text → Yet M p (flatten pieces) text
  unfolding flatten
  yet_pieces (done f) = yet_finishes f
  yet_pieces (piece p q) = yet_takes p (yet_pieces q)

-- OVER ANY CUTTING OF THE INPUT INTO PIECES THE WHOLE OUTPUT IS THAT OF THE INPUT
pub any_pieces : (M : Machine) (pieces : List (List ℕ)) (text : List ℕ) → InPieces M (start M) pieces text → Output M (flatten pieces) text
any_pieces M pieces text p = onward (yet_pieces p)

-- WHAT A LINE IS ANSWERED IS OUT WHEN ITS NEWLINE IS IN: behind a newline only the later lines have something left to print
pub prompt : (M : Machine) (a said rest text : List ℕ) {k : ℕ} {s : M.State} → Takes M (start M) (a ++ 10 ∷ []) (in-line k s []) said
    → Onward M k s (rows rest) text → Output M ((a ++ 10 ∷ []) ++ rest) (said ++ text)
prompt M a said rest text p y = onward (yet_takes p (yet y))

-- one call on a piece

pub up_to-le : (l : List ℕ) → up_to_newline l ≤ length l
unfolding up_to_newline
up_to-le [] = omega arith
up_to-le (b ∷ l) = if (eqb b 10) (λ e. rw e (omega arith)) (λ e. rw e (omega (arith, up_to-le l)))

pub up_to_pos : (l : List ℕ) → 0 < length l → 0 < up_to_newline l
unfolding up_to_newline
up_to_pos [] h = absurd (omega arith)
up_to_pos (b ∷ l) h = if (eqb b 10) (λ e. rw e (omega arith)) (λ e. rw e (omega arith))

-- what is cut of a piece makes the line at hand longer, and may end it
pub record Grown (M : Machine) (k : ℕ) (s : M.State) (begun a : List ℕ) (c : Cut) : Type 0 where
  pub whole : List ℕ
  pub used : c.used ≡ up_to_newline a
  pub line : c.line ≡ typed k whole
  pub quiet : c.ended ≡ false → Takes M (in-line k s begun) (take (up_to_newline a) a) (in-line k s whole) []
  pub over : {t : M.State} {now : List ℕ} → c.ended ≡ true → M.step k s (judged whole) t now
      → Takes M (in-line k s begun) (take (up_to_newline a) a) (in-line (k + 1) t []) now

module _ {M : Machine} {k : ℕ} {s : M.State} where
  grown_newline : (begun a : List ℕ) (b : ℕ) → b ≡ 10 → Grown M k s begun (b ∷ a) (record { line = typed k begun; used = 1; ended = true })
  unfolding up_to_newline
  grown_newline begun a b z = subst (λ (x : ℕ). Grown M k s begun (x ∷ a) (record { line = typed k begun; used = 1; ended = true })) (sym z) (record {
    whole = begun;
    used = refl;
    line = refl;
    quiet = λ e. clash refl e;
    over = λ {t} {now} e w. subst (λ (l : List ℕ). Takes M (in-line k s begun) (10 ∷ []) (in-line (k + 1) t []) l) (append-nil now) (newline w none);
  })

  grown_byte : {begun a : List ℕ} {b : ℕ} {c : Cut} → (b ≡ 10 → ⊥) → Grown M k s (begun ++ b ∷ []) a c
      → Grown M k s begun (b ∷ a) (record { line = c.line; used = suc c.used; ended = c.ended })
  unfolding up_to_newline
  grown_byte {begun} {a} {b} {c} n g = record {
    whole = g.whole;
    used = rw (ne_eqb b 10 n) (ap suc g.used);
    line = g.line;
    quiet = λ e. rw (ne_eqb b 10 n) (byte n (g.quiet e));
    over = λ e w. rw (ne_eqb b 10 n) (byte n (g.over e w));
  }

  grown : (begun a : List ℕ) → Grown M k s begun a (cut_of (typed k begun) a)
  unfolding cut_of up_to_newline
  grown begun [] = record { whole = begun; used = refl; line = refl; quiet = λ e. none; over = λ e t. clash e refl }
  grown begun (b ∷ a) =
      if (eqb b 10)
      (λ e. rw e (grown_newline begun a b (eqb-true b 10 e)))
      (λ e. rw (e, typed_more k begun b) (grown_byte (eqb-false b 10 e) (grown (begun ++ b ∷ []) a)))

-- a call that cut a piece, with what the code knows of the line at hand
pub cut_grown : (M : Machine) (k : ℕ) (s : M.State) (begun a : List ℕ) {l : Line} {c : Cut} → l ≡ typed k begun → c ≡ cut_of l a → Grown M k s begun a c
cut_grown M k s begun a at is = subst (Grown M k s begun a) (sym (is ∙ ap (λ (x : Line). cut_of x a) at)) (grown begun a)

module _ {M : Machine} {k : ℕ} {s : M.State} {begun a : List ℕ} {c : Cut} (g : Grown M k s begun a c) where
  pub fed_quiet : (out : List ℕ) → c.ended ≡ false → FedBy M (in-line k s begun) a out c.used 0 (in-line k s g.whole) out
  fed_quiet out e = record { used = g.used; said = []; takes = g.quiet e; laid = wrote_none out 0 }

  pub fed_line : {S : Type 0} {held : M.State → S} {t : S} {out later : List ℕ} {w : ℕ} → c.ended ≡ true
      → (e : SteppedBy M held c.line.number s (row_of c.line) out t w later) → FedBy M (in-line k s begun) a out c.used w (in-line (k + 1) e.state []) later
  fed_line h e = record {
    used = g.used;
    said = e.said;
    takes = g.over h (rw (typed_row k g.whole g.line, typed_number k g.whole g.line) at e.step);
    laid = e.laid;
  }

-- the call at the end of the input, with what the code knows of the line at hand
module _ {M : Machine} {k : ℕ} {s : M.State} {l : Line} {out later : List ℕ} {w : ℕ} where
  pub finish_none : (begun : List ℕ) → l ≡ typed k begun → is_none (row_of l) ≡ true → StoppedBy M s out 0 w later → FinishedBy M (in-line k s begun) out w later
  finish_none [] at n t = record { said = t.said; finishes = ended t.stop; laid = t.laid }
  finish_none (b ∷ begun) at n t =
      let z = eqb-true (suc (length begun)) 0 (sym (none_judged (b ∷ begun)) ∙ ap is_none (sym (typed_row k (b ∷ begun) at)) ∙ n) in
      absurd (omega arith)

  pub finish_line : {S : Type 0} {held : M.State → S} {c : S} {m : Line} {o : List ℕ} {v : ℕ} (begun : List ℕ) → l ≡ typed k begun → is_none (row_of l) ≡ false → m ≡ line_cut_off l
      → (e : SteppedBy M held m.number s (row_of m) out c v o) → length o ≡ length out → StoppedBy M e.state o v w later → length later ≡ length out
      → FinishedBy M (in-line k s begun) out w later
  finish_line [] at n is e f t h = absurd (eqb-false 0 0 (sym (none_judged []) ∙ ap is_none (sym (typed_row k [] at)) ∙ n) refl)
  finish_line {m = m} (b ∷ begun) at n is e f t h = record {
    said = e.said ++ t.said;
    finishes = cut_off (rw (ap row_of is ∙ row_long (line_cut_off l) refl, ap (λ (x : Line). x.number) is ∙ typed_number k (b ∷ begun) at) at e.step) t.stop;
    laid = wrote_behind e.laid t.laid f h;
  }

-- for a caller that goes on behind the call

pub takes_number : {M : Machine} {p q : Position M} {a said : List ℕ} → Takes M p a q said → line_in q ≤ line_in p + length a
takes_number none = omega arith
takes_number (byte n p) = omega (arith, takes_number p)
takes_number (newline e p) = omega (arith, takes_number p)

-- a piece of which `at` bytes are taken, and the next call on the rest of it as it is lent
module _ (whole : List ℕ) (at : ℕ) where
  rest : List ℕ
  rest = take (length whole - at) (drop at whole)

  rest_is : rest ≡ drop at whole
  unfolding rest
  rest_is = take_all (length whole - at) (drop at whole) (omega (arith, length-drop at whole))

  module _ {M : Machine} {q r : Position M} {out later : List ℕ} {used wrote : ℕ} (f : FedBy M q (take (length whole - at) (drop at whole)) out used wrote r later) where
    pub rest_used : at < length whole → (0 < used) × (at + used ≤ length whole)
    unfolding rest
    rest_used h =
        let n : length rest ≡ length whole - at = ap length rest_is ∙ length-drop at whole in
        (omega (arith, f.used, up_to_pos rest (omega arith)), omega (arith, f.used, up_to-le rest))

    pub takes_rest : {p : Position M} {said : List ℕ} → Takes M p (take at whole) q said → Takes M p (take (at + used) whole) r (said ++ f.said)
    unfolding rest
    takes_rest {p} {said} w =
        subst (λ (l : List ℕ). Takes M p l r (said ++ f.said))
        (ap (λ (n : ℕ). take at whole ++ take n rest) (sym f.used) ∙ ap (λ (l : List ℕ). take at whole ++ take used l) rest_is ∙ sym (take-add at used whole))
        (takes_then w f.takes)
