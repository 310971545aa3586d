-- The line at hand is the line that has begun, judged: each byte that is taken makes both longer.
use Prim.Native.Nat.{ℕ, suc, ◌+◌, ◌≤◌, ◌<◌}
use mathlib.Core.Bool.{true, false, cond}
use mathlib.Core.Path.{◌≡◌, refl, sym, ap, ◌∙◌, subst}
use mathlib.Core.List.{List, [], ◌∷◌, ◌++◌, append-nil}
use native.Mathlib.Numerals.{add-one}
use native.Mathlib.Omega.{arith}
use lib.Dec.{leb, ltb, eqb}
use lib.ListN.{length, get_or, take, drop, drop_of_length-le, length-append, length-set}
use lib.Seq.{take-suc-set, take_all, length-take-le, append_snoc, drop-cons}
use borrow.Author.Tests.{le-leb, lt-leb, leb-true, ltb-true, ltb-false, leb-false, eq-eqb, ne_eqb}
use Rattle.ground.proofs.Cases.{if}
use Rattle.machine.specs.declared.line.Line.{Line}
use Rattle.machine.specs.Rows.{most_bytes, Row, whole, spoiled, judged}
use Rattle.machine.specs.AtHand.{row_of, empty, pushed, typed_on, typed, is_none, LineFits, line_cut_off, cut_of, Cut}

-- one byte more; the 41st spoils it
longer : Row → ℕ → Row
longer spoiled b = spoiled
longer (whole l) b = cond (ltb (length l) most_bytes) (whole (l ++ b ∷ [])) spoiled

longer_judged : (l : List ℕ) (b : ℕ) → longer (judged l) b ≡ judged (l ++ b ∷ [])
unfolding longer judged
longer_judged l b =
    let n : length (l ++ b ∷ []) ≡ length l + 1 = length-append l (b ∷ []) in
    if (leb (length l) most_bytes)
    (λ e. if (ltb (length l) most_bytes)
    (λ f. rw (e, f, le-leb (length (l ++ b ∷ [])) most_bytes (omega (arith, n, ltb-true (length l) most_bytes f))))
    (λ f. rw (e, f, lt-leb (length (l ++ b ∷ [])) most_bytes (omega (arith, n, ltb-false (length l) most_bytes f)))))
    (λ e. rw (e, lt-leb (length (l ++ b ∷ [])) most_bytes (omega (arith, n, leb-false (length l) most_bytes e))))

row_longer : (l : Line) (b : ℕ) → length l.text ≡ most_bytes → row_of (pushed l b) ≡ longer (row_of l) b
unfolding row_of pushed longer
row_longer l b t =
    if (ltb l.len most_bytes)
    (λ e.
    let h : l.len < most_bytes = ltb-true l.len most_bytes e in
    let k : length (take l.len l.text) ≡ l.len = length-take-le l.len l.text (omega arith) in
    if l.long (λ f. rw (e, f))
    (λ f. rw (e, f, k, e, add-one l.len) (ap whole (take-suc-set l.text l.len b (omega arith)))))
    (λ e.
    let h : most_bytes ≤ l.len = ltb-false l.len most_bytes e in
    let k : length (take l.len l.text) ≡ most_bytes = ap length (take_all l.len l.text (omega arith)) ∙ t in
    if l.long (λ f. rw (e, f)) (λ f. rw (e, f, k)))

pub fits_pushed : (l : Line) (b : ℕ) → LineFits l → LineFits (pushed l b)
unfolding pushed
fits_pushed l b f =
    if (ltb l.len most_bytes)
    (λ e. rw e (record { text = length-set l.text l.len b ∙ f.text; len = omega (arith, ltb-true l.len most_bytes e) }))
    (λ e. rw e (record { text = f.text; len = f.len }))

number_pushed : (l : Line) (b : ℕ) → (pushed l b).number ≡ l.number
unfolding pushed
number_pushed l b = if (ltb l.len most_bytes) (λ e. rw e) (λ e. rw e)

-- a line after some bytes, whatever it was before

on_append : (l : Line) (a b : List ℕ) → typed_on l (a ++ b) ≡ typed_on (typed_on l a) b
unfolding typed_on
on_append l [] b = refl
on_append l (x ∷ a) b = on_append (pushed l x) a b

on_row : (l : Line) (a b : List ℕ) → LineFits l → row_of l ≡ judged a → row_of (typed_on l b) ≡ judged (a ++ b)
unfolding typed_on
on_row l a [] f h = h ∙ ap judged (sym (append-nil a))
on_row l a (x ∷ b) f h =
    subst (λ (t : List ℕ). row_of (typed_on (pushed l x) b) ≡ judged t) (append_snoc a x b)
    (on_row (pushed l x) (a ++ x ∷ []) b (fits_pushed l x f) (row_longer l x f.text ∙ ap (λ (r : Row). longer r x) h ∙ longer_judged a x))

on_fits : (l : Line) (b : List ℕ) → LineFits l → LineFits (typed_on l b)
unfolding typed_on
on_fits l [] f = f
on_fits l (x ∷ b) f = on_fits (pushed l x) b (fits_pushed l x f)

on_number : (l : Line) (b : List ℕ) → (typed_on l b).number ≡ l.number
unfolding typed_on
on_number l [] = refl
on_number l (x ∷ b) = on_number (pushed l x) b ∙ number_pushed l x

-- line k, of which these bytes have come

module _ (k : ℕ) where
  empty_fits : LineFits (empty k)
  empty_fits = record { text = refl; len = omega arith }

  empty_row : row_of (empty k) ≡ judged []
  unfolding row_of judged
  empty_row = refl

  pub typed_none : empty k ≡ typed k []
  unfolding typed_on
  typed_none = refl

  module _ (begun : List ℕ) where
    pub typed_more : (b : ℕ) → pushed (typed k begun) b ≡ typed k (begun ++ b ∷ [])
    unfolding typed_on
    typed_more b = sym (on_append (empty k) begun (b ∷ []))

    module _ {l : Line} (e : l ≡ typed k begun) where
      pub typed_fits : LineFits l
      typed_fits = subst LineFits (sym e) (on_fits (empty k) begun empty_fits)

      pub typed_row : row_of l ≡ judged begun
      typed_row = ap row_of e ∙ on_row (empty k) [] begun empty_fits empty_row

      pub typed_number : l.number ≡ k
      typed_number = ap (λ (x : Line). x.number) e ∙ on_number (empty k) begun

pub none_judged : (l : List ℕ) → is_none (judged l) ≡ eqb (length l) 0
unfolding judged
none_judged l =
    if (leb (length l) most_bytes) (λ e. rw e)
    (λ e. let h : most_bytes < length l = leb-false (length l) most_bytes e in rw e (sym (ne_eqb (length l) 0 (λ (z : length l ≡ 0). omega arith))))

pub row_long : (l : Line) → l.long ≡ true → row_of l ≡ spoiled
unfolding row_of
row_long l e = rw e

pub row_short : (l : Line) → l.long ≡ false → row_of l ≡ whole (take l.len l.text)
unfolding row_of
row_short l e = rw e

-- the bytes that have come, of a line of any length beside them

pub none_taken : (n : ℕ) (t : List ℕ) → length t ≡ most_bytes → eqb (length (take n t)) 0 ≡ eqb n 0
none_taken n t l =
    if (leb n most_bytes)
    (λ e. ap (λ (k : ℕ). eqb k 0) (length-take-le n t (omega (arith, l, leb-true n most_bytes e))))
    (λ e.
    let h : most_bytes < n = leb-false n most_bytes e in
    ap (λ (k : ℕ). eqb k 0) (ap length (take_all n t (omega arith)) ∙ l) ∙ sym (ne_eqb n 0 (λ (z : n ≡ 0). omega arith)))

pub all_taken : (n k : ℕ) (t : List ℕ) → length t ≡ most_bytes → (n ≤ most_bytes → k ≡ n) → (most_bytes < n → k ≡ most_bytes) → take k t ≡ take n t
all_taken n k t l few many =
    if (leb n most_bytes)
    (λ e. ap (λ (i : ℕ). take i t) (few (leb-true n most_bytes e)))
    (λ e.
    let h : most_bytes < n = leb-false n most_bytes e in
    take_all k t (omega (arith, l, many h)) ∙ sym (take_all n t (omega (arith, l, h))))

pub cut_off_fits : {l m : Line} → m ≡ line_cut_off l → LineFits l → LineFits m
cut_off_fits e f = subst LineFits (sym e) (record { text = f.text; len = f.len })

-- a piece of which i bytes are taken, none of them a newline

abbrev pub used_more : ℕ → Cut → Cut
used_more i c = record { line = c.line; used = i + c.used; ended = c.ended }

pub cut_none : (c : Cut) → c ≡ used_more 0 c
cut_none c = ap (λ (n : ℕ). record { line = c.line; used = n; ended = c.ended }) (omega arith)

module _ (l : Line) (piece : List ℕ) (i : ℕ) (h : i < length piece) where
  pub cut_newline : get_or piece i 0 ≡ 10 → used_more i (cut_of l (drop i piece)) ≡ record { line = l; used = i + 1; ended = true }
  unfolding cut_of
  cut_newline e = rw (drop-cons piece i 0 h, eq-eqb _ _ e)

  pub cut_byte : (get_or piece i 0 ≡ 10 → ⊥) → used_more i (cut_of l (drop i piece)) ≡ used_more (i + 1) (cut_of (pushed l (get_or piece i 0)) (drop (i + 1) piece))
  unfolding cut_of
  cut_byte n =
      let c = cut_of (pushed l (get_or piece i 0)) (drop (suc i) piece) in
      let u : i + suc c.used ≡ suc i + c.used = omega arith in
      rw (add-one i, drop-cons piece i 0 h, ne_eqb _ _ n) (ap (λ (n : ℕ). record { line = c.line; used = n; ended = c.ended }) u)

pub cut_all : (l : Line) (piece : List ℕ) (i : ℕ) → length piece ≤ i → used_more i (cut_of l (drop i piece)) ≡ record { line = l; used = i; ended = false }
unfolding cut_of
cut_all l piece i h = rw (drop_of_length-le piece h) (ap (λ (n : ℕ). record { line = l; used = n; ended = false }) (omega arith))
