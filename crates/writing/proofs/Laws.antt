-- Bytes and listed combinations, one at a time, as the loops put them; the form from its five pieces.
use Rattle.std.proofs.Common.{◌≡◌, ◌∙◌, ℕ, zero, suc, ◌+◌, ◌*◌, ◌/◌, ◌%◌, ◌^◌, ◌≤◌, ◌<◌, refl, sym, ap, ap₂, subst, Bool, true, false, cond, ◌&&◌, List, [], ◌∷◌, ◌++◌, length, take, drop, append_assoc, add-one, arith, length-append}
use Rattle.std.proofs.lemmas.List.{get_or-take, length-take-le, take_all}
use Rattle.std.proofs.lemmas.List.Sums.{count_by_more_yes, count_by_more_no}
use Rattle.std.proofs.Math.Nat.{div-div-eq-div-mul}
use Rattle.std.specs.Int.{byte_at, bytes_low_first}
use Rattle.std.specs.List.{count_by}
use native.Mathlib.Nat.{pow-suc, zero-add}
use lib.Dec.{eqb, ltb}
use borrow.Author.Tests.{lt-ltb, le-ltb}
use Rattle.ground.specs.Areas.{laid}
use Rattle.ground.proofs.Cases.{below_or, mark}
use Rattle.boxes.specs.Sums.{sum, only}
use Rattle.boxes.proofs.Sums.{sum_ext}
use Rattle.tables.specs.Tables.{entry, own}
use Rattle.classes.specs.Standings.{is_in, is_either, told_by}
use Rattle.classes.specs.declared.Standing.TheVariants as standing
use Rattle.print.specs.declared.page.Page.{Page}
use Rattle.print.specs.Pages.{Puts, HasRoom}
use Rattle.print.proofs.Pages.{puts_nothing, puts_then, puts_text, wrote_of}
use Rattle.sheet.specs.Limits.{most_marks}
use Rattle.sheet.specs.Sound.{Ready, size_of, record_of}
use Rattle.sheet.specs.Told.{Value}
use Rattle.sheet.specs.declared.Sheet.{Sheet}
use Rattle.sheet.proofs.Limits.{marks_most}
use Rattle.sheet.proofs.Opening.{combinations_fit}
use Rattle.stored.specs.Sections.{bytes_behind, stands_in}
use Rattle.stored.specs.Parts.{Neither}
use Rattle.stored.specs.Form.{bytes, listed, entry_of, section, profile_bytes, form_by, form}
use Rattle.stored.specs.Answers.{Writes, written}
use Rattle.stored.specs.declared.Section.{Section}
use Rattle.stored.specs.declared.Section.TheVariants.{Class, Either, Held}
use Rattle.stored.proofs.Listed.{count, listed_ext}
use Rattle.stored.proofs.Trips.{form-length}
use Rattle.writing.specs.Sections.{entry_text, count_in, section_in, Owns}

-- the first k of w bytes of a number, from its byte i on
byte_is : (i n : ℕ) → byte_at i n ≡ n / 256 ^ i % 256
byte_is zero n = omega arith
byte_is (suc i) n = refl

next_byte : (i n : ℕ) → n / 256 ^ i / 256 ≡ n / 256 ^ suc i
next_byte i n = div-div-eq-div-mul n (256 ^ i) 256 ∙ ap (λ (d : ℕ). n / d) (sym (pow-suc 256 i))

low_bytes_from : (k w i n : ℕ) → k ≤ w → take k (bytes_low_first i w n) ≡ bytes k (n / 256 ^ i)
unfolding bytes
low_bytes_from zero w i n h = refl
low_bytes_from (suc k) zero i n h = absurd (omega arith)
low_bytes_from (suc k) (suc w) i n h =
    ap₂ (λ (x : ℕ) (l : List ℕ). x ∷ l) (byte_is i n)
    (low_bytes_from k w (suc i) n (omega arith) ∙ ap (bytes k) (sym (next_byte i n)))

pub low_bytes : (k n : ℕ) → k ≤ 8 → take k (bytes_low_first 0 8 n) ≡ bytes k n
low_bytes k n h = low_bytes_from k 8 0 n h ∙ ap (bytes k) (omega arith)

-- listed combinations
module _ (p : ℕ → Bool) (f : ℕ → List ℕ) where
  pub listed_step : (c : ℕ) (b : Bool) (x : List ℕ) → p c ≡ b → f c ≡ x → listed p f (c + 1) ≡ listed p f c ++ cond b x []
  unfolding listed
  listed_step c b x e q = ap (listed p f) (add-one c) ∙ ap₂ (λ (y : Bool) (z : List ℕ). listed p f c ++ cond y z []) e q

  pub listed_grows : (c n : ℕ) → c ≤ n → length (listed p f c) ≤ length (listed p f n)
  unfolding listed
  listed_grows c zero h = let e : c ≡ 0 = omega arith in subst (λ (j : ℕ). length (listed p f j) ≤ 0) (sym e) (omega arith)
  listed_grows c (suc n) h =
      below_or n c
      (λ l. let e : suc n ≡ c = omega arith in subst (λ (j : ℕ). length (listed p f j) ≤ length (listed p f (suc n))) e (omega arith))
      (λ l. omega (arith, listed_grows c n l, length-append (listed p f n) (cond (p n) (f n) [])))

-- A list that is being put: up to the combination c, with room for all below n.
pub record Listing (p : ℕ → Bool) (f : ℕ → List ℕ) (n : ℕ) (from to : Page) (c : ℕ) : Type 0 where
  pub room : HasRoom from (length (listed p f n))
  pub put : Puts from to (listed p f c)

pub listing_none : (p : ℕ → Bool) (f : ℕ → List ℕ) (n : ℕ) (page : Page) → HasRoom page (length (listed p f n)) → Listing p f n page page 0
unfolding listed
listing_none p f n page h = record { room = h; put = puts_nothing page }

module _ {p : ℕ → Bool} {f : ℕ → List ℕ} {n : ℕ} {from to : Page} {c : ℕ} (v : Listing p f n from to c) where
  pub listing_done : c ≡ n → Puts from to (listed p f n)
  listing_done e = puts_text (ap (listed p f) e) v.put

  module _ (b : Bool) (x : List ℕ) (takes : p c ≡ b) (writes : f c ≡ x) (h : c < n) where
    pub listing_room : HasRoom to (length (cond b x []))
    listing_room =
        let e = ap length (listed_step p f c b x takes writes) in
        omega (arith, e, length-append (listed p f c) (cond b x []), v.room, v.put.len, v.put.long, listed_grows p f (c + 1) n (omega arith))

    pub listing_more : {next : Page} → Puts to next (cond b x []) → Listing p f n from next (c + 1)
    listing_more w = record { room = v.room; put = puts_text (sym (listed_step p f c b x takes writes)) (puts_then v.put w) }

-- an entry
pub entry_none : (s : Section) (c x : ℕ) → x ≡ 0 → entry_text s c x ≡ []
entry_none s c x e = ap (λ (b : Bool). cond b (c ∷ bytes (bytes_behind s) x) []) (le-ltb 0 x (omega arith))

pub entry_some : (s : Section) (c x : ℕ) → (x ≡ 0 → ⊥) → entry_text s c x ≡ c ∷ bytes (bytes_behind s) x
entry_some s c x n = ap (λ (b : Bool). cond b (c ∷ bytes (bytes_behind s) x) []) (lt-ltb 0 x (omega arith))

-- what is counted in a list of what its combinations have
count_below : (has : List ℕ) (c : ℕ) → c ≤ length has → count_by (λ x. ltb 0 x) (take c has) ≡ count (λ j. ltb 0 (entry has j)) c
unfolding sum
count_below has zero h = refl
count_below has (suc c) h =
    let e : c + 1 ≡ suc c = omega arith in
    let before = count_below has c (omega arith) in
    subst (λ (j : ℕ). count_by (λ x. ltb 0 x) (take j has) ≡ count (λ j. ltb 0 (entry has j)) (suc c)) e
    (below_or 0 (entry has c)
    (λ l. count_by_more_yes (λ x. ltb 0 x) has c 0 (omega arith) (lt-ltb 0 (entry has c) l) ∙ omega (arith, before, ap (λ (b : Bool). only b 1) (lt-ltb 0 (entry has c) l)))
    (λ l. count_by_more_no (λ x. ltb 0 x) has c 0 (omega arith) (le-ltb 0 (entry has c) l) ∙ omega (arith, before, ap (λ (b : Bool). only b 1) (le-ltb 0 (entry has c) l))))

count_is : (has : List ℕ) → count_in has ≡ count (λ j. ltb 0 (entry has j)) (length has)
count_is has = ap (count_by (λ x. ltb 0 x)) (sym (take_all (length has) has (omega arith))) ∙ count_below has (length has) (omega arith)

-- a list tells a section of a sheet: what stands there, and what is behind it
pub record Told (u : Sheet) (s : Section) (has : List ℕ) : Type 0 where
  pub long : length has ≡ 2 ^ u.marks
  pub stands : (c : ℕ) → c < 2 ^ u.marks → ltb 0 (entry has c) ≡ stands_in s (record_of u) c
  pub text : (c : ℕ) → c < 2 ^ u.marks → (c ∷ bytes (bytes_behind s) (entry has c)) ≡ entry_of s (record_of u) c

pub count_told : {u : Sheet} {s : Section} {has : List ℕ} → Told u s has → count_in has ≡ size_of u.marks (stands_in s (record_of u))
count_told {u} {s} {has} v =
    count_is has ∙ ap (count (λ j. ltb 0 (entry has j))) v.long ∙ sum_ext (2 ^ u.marks) _ _ (λ c l. ap (λ (b : Bool). only b 1) (v.stands c l))

section_told : {u : Sheet} {s : Section} {has : List ℕ} → Told u s has → section_in s has ≡ section s (record_of u)
section_told {u} {s} {has} v =
    ap₂ (λ (n : ℕ) (l : List ℕ). bytes 2 n ++ l) (count_told v)
    (ap (listed (λ c. ltb 0 (entry has c)) (λ c. c ∷ bytes (bytes_behind s) (entry has c))) v.long ∙ listed_ext _ _ _ _ (2 ^ u.marks) v.stands v.text)

-- the part of a list that tells the combinations of m marks
pub front_long : (m n : ℕ) (has : List ℕ) → m ≤ 5 → n ≡ 2 ^ m → length has ≡ 32 → n ≡ length (take n has)
front_long m n has few e long = sym (length-take-le n has (omega (arith, combinations_fit m few)))

-- each of a sound sheet's three
module _ {most : ℕ} (u : Sheet) (ready : Ready most u) where
  -- a combination is in exactly if it is neither out nor either
  in-third : (a b : Bool) → ltb 0 (only (a && b) 1) ≡ is_in (cond a (cond b standing.In standing.Either) standing.Out)
  in-third true true = refl
  in-third true false = refl
  in-third false b = refl

  either_own : (o e : ℕ) → o + e ≤ 1 → ltb 0 e ≡ is_either (told_by o e)
  either_own o e l =
      mark (λ (x : ℕ). x + e ≤ 1 → ltb 0 e ≡ is_either (told_by x e)) o (omega arith)
      (λ k. mark (λ (y : ℕ). ltb 0 y ≡ is_either (told_by 0 y)) e (omega arith) refl refl)
      (λ k. le-ltb 0 e (omega arith)) l

  -- the lists are as long as there may be combinations; the first 2^m tell
  module _ (few : u.marks ≤ 5) (n : ℕ) (en : n ≡ 2 ^ u.marks) where
    front : (has : List ℕ) → length has ≡ 32 → length (take n has) ≡ 2 ^ u.marks
    front has long = sym (front_long u.marks n has few en long) ∙ en

    in_front : (has : List ℕ) (c : ℕ) → c < 2 ^ u.marks → entry (take n has) c ≡ entry has c
    in_front has c l = get_or-take n has c 0 (omega arith)

    module _ {outs eithers : List ℕ} (out : Owns u.marks u.outside outs) (either : Owns u.marks u.either eithers) where
      pub class_told : {class : List ℕ} → Neither outs eithers class → Told u Class (take n class)
      unfolding bytes
      class_told {class} third = record {
        long = front class third.long;
        stands = λ c l.
            rw (in_front class c l, lt-ltb c (2 ^ u.marks) l, third.each c (omega (arith, combinations_fit u.marks few)), out.each c l, either.each c l)
            (in-third (eqb (own u.marks u.outside c) 0) (eqb (own u.marks u.either c) 0));
        text = λ c l. refl;
      }

      pub either_told : Told u Either (take n eithers)
      unfolding bytes
      either_told = record {
        long = front eithers either.long;
        stands = λ c l. rw (in_front eithers c l, lt-ltb c (2 ^ u.marks) l, either.each c l) (either_own _ _ (ready.class.counts.tells c l));
        text = λ c l. refl;
      }

    pub held_told : {times : List ℕ} → Owns u.marks u.held times → Told u Held (take n times)
    held_told {times} held = record {
      long = front times held.long;
      stands = λ c l. ap (ltb 0) (in_front times c l ∙ held.each c l);
      text = λ c l. ap (λ (x : ℕ). c ∷ bytes 4 x) (in_front times c l ∙ held.each c l);
    }

-- the three lists of a sound sheet
pub record Lists (u : Sheet) (ins eithers times : List ℕ) : Type 0 where
  pub class : Told u Class ins
  pub either : Told u Either eithers
  pub held : Told u Held times

pub lists_told : (u : Sheet) → Ready most_marks u → {n : ℕ} → n ≡ 2 ^ u.marks → {outs eithers ins times : List ℕ} → Owns u.marks u.outside outs
    → Owns u.marks u.either eithers → Owns u.marks u.held times → Neither outs eithers ins → Lists u (take n ins) (take n eithers) (take n times)
lists_told u ready {n} en out either held third =
    let few : u.marks ≤ 5 = marks_most most_marks u.marks ready.marks in
    record { class = class_told u ready few n en out either third; either = either_told u ready few n en out either; held = held_told u ready few n en held }

-- the form from its five pieces, and its length from the three counts and the profile
module _ {u : Sheet} {class eithers times : List ℕ} (v : Lists u class eithers times) where
  abbrev pub pieces : List ℕ
  pieces =
      ((((u.marks ∷ []) ++ section_in Class class) ++ section_in Either eithers) ++ section_in Held times) ++ profile_bytes u.profile

  pub pieces_form : pieces ≡ form (record_of u)
  unfolding form_by
  pieces_form =
      let a = section_in Class class in
      let e = section_in Either eithers in
      let b = section_in Held times in
      let p = profile_bytes u.profile in
      ap (λ (l : List ℕ). u.marks ∷ l)
      (append_assoc (a ++ e) b p ∙ append_assoc a e (b ++ p)
      ∙ ap₂ (λ (x y : List ℕ). x ++ y) (section_told v.class)
      (ap₂ (λ (x y : List ℕ). x ++ y) (section_told v.either) (ap (λ (x : List ℕ). x ++ p) (section_told v.held))))

  pub length_told : length (form (record_of u)) ≡ 7 + count_in class + count_in eithers + count_in times * 5 + length (profile_bytes u.profile)
  length_told = omega (arith, form-length (record_of u), count_told v.class, count_told v.either, count_told v.held)

  -- they fill it
  pub pieces_length : length (form (record_of u))
      ≡ 1 + length (section_in Class class) + length (section_in Either eithers) + length (section_in Held times) + length (profile_bytes u.profile)
  pieces_length =
      let first = (u.marks ∷ []) ++ section_in Class class in
      let second = first ++ section_in Either eithers in
      omega (
        arith,
        ap length pieces_form,
        length-append (second ++ section_in Held times) (profile_bytes u.profile),
        length-append second (section_in Held times),
        length-append first (section_in Either eithers),
        length-append (u.marks ∷ []) (section_in Class class),
      )

  -- a form whose pieces were put is written
  pub pieces_written : {most : ℕ} {p₀ p₁ p₂ p₃ p₄ p₅ : Page} → Ready most u → p₀.len ≡ 0 → length (form (record_of u)) ≤ length p₀.area.now → Puts p₀ p₁ (u.marks ∷ [])
      → Puts p₁ p₂ (section_in Class class) → Puts p₂ p₃ (section_in Either eithers) → Puts p₃ p₄ (section_in Held times)
      → Puts p₄ p₅ (profile_bytes u.profile) → Writes most u p₀.area.now (record { number = 0; value = p₅.len }) p₅.area.now
  unfolding laid
  pieces_written {most} {p₀} {p₅ = p₅} ready none room w₁ w₂ w₃ w₄ w₅ =
      let t = form (record_of u) in
      let out = p₀.area.now in
      let w = wrote_of (puts_text pieces_form (puts_then (puts_then (puts_then (puts_then w₁ w₂) w₃) w₄) w₅)) (omega (arith, none, room)) in
      let e : p₅.len ≡ length t = omega (arith, w.place, none) in
      let q : p₅.area.now ≡ t ++ drop (length t) out = w.area ∙ ap (λ (at : ℕ). take at out ++ t ++ drop (at + length t) out) none ∙ ap (λ (k : ℕ). t ++ drop k out) (zero-add (length t)) in
      subst (λ (k : ℕ). Writes most u out (record { number = 0; value = k }) p₅.area.now) (sym e)
      (subst (λ (l : List ℕ). Writes most u out (record { number = 0; value = length t }) l) (sym q) (written ready room))

-- the area that the page lends back is the one that was lent to it
pub written_in : {most : ℕ} {u : Sheet} {v : Value} (from to out later : List ℕ) → Writes most u from v to → from ≡ out → to ≡ later → Writes most u out v later
written_in from to out later w e q = rw (← e, ← q) w
