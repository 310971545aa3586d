-- The form of a record is read as that record, with nothing at 2^m and above. A section goes by induction on the combinations scanned, whatever bytes
-- follow it: the run goes from the record that has of the section what is below n to that of what is below n + 1. What is due goes by
-- induction.
use Prim.Native.Nat.{ℕ, zero, suc, ◌+◌, ◌^◌, ◌≤◌, ◌<◌}
use mathlib.Core.Path.{◌≡◌, refl, sym, ap, ap₂, ◌∙◌, subst, fun_ext}
use mathlib.Core.Bool.{Bool, true, false, not, cond}
use mathlib.Core.List.{List, [], ◌∷◌, ◌++◌, append_assoc}
use native.Mathlib.Nat.{add-zero, zero-add, pow-le-pow_right}
use native.Mathlib.Omega.{arith}
use lib.ListN.{length-append}
use lib.Dec.{ltb}
use borrow.Author.Tests.{le-leb, lt-ltb, ltb-true, ltb-false}
use Rattle.boxes.specs.Sums.{sum, only}
use Rattle.boxes.proofs.Sums.{sum_change, sum-le, sum_term, only-le}
use Rattle.ground.proofs.Cases.{if, clash, below_or}
use Rattle.profiles.specs.declared.Profile.{Profile}
use Rattle.profiles.specs.declared.Profile.TheVariants.{None}
use Rattle.classes.specs.Standings.{is_in, is_either}
use Rattle.classes.specs.declared.Standing.{Standing}
use Rattle.classes.specs.declared.Standing.TheVariants as standing
use Rattle.sheet.specs.Limits.{most_held}
use Rattle.sheet.specs.Record.{Record, opened, with_standing, with_profile, with_times, Obeys}
use Rattle.sheet.specs.Sound.{size_of}
use Rattle.sheet.proofs.Limits.{marks_most}
use Rattle.stored.specs.Sections.{Rest, nothing, profile, more, sections, bytes_behind, stands_in, number_behind, takes, held_in, may_stand, added}
use Rattle.stored.specs.Fields.{marks, count as count-due, combination, behind, due, rest_due, entries_due, judge, Outcome, good, Run, done, ReadingBy}
use Rattle.stored.specs.Form.{bytes, listed, entry_of, section, rest_of, form_by}
use Rattle.stored.specs.declared.Layout.{Layout}
use Rattle.stored.specs.declared.Layout.TheVariants.{First, Today}
use Rattle.stored.specs.declared.Section.{Section}
use Rattle.stored.specs.declared.Section.TheVariants.{Class, Either, Held}
use Rattle.stored.proofs.UpTo.{up_to, up_to_none, up_to_low, up_to_high, up_to_next, up_to_skip, up_to_updated, updated-is}
use Rattle.stored.proofs.Runs.{goes}
use Rattle.stored.proofs.Numbers.{number_front, drop_front, number_one, bytes-length}
use Rattle.stored.proofs.Listed.{count, count_le}
use Rattle.stored.proofs.Groups.{profile_back}
use Rattle.stored.proofs.IsForm.{Storable, Tells}

-- how far each section was read: its combinations below a number
record Far : Type 0 where
  class : ℕ
  either : ℕ
  held : ℕ

abbrev to : Section → ℕ → Far → Far
to Class n p = record { class = n; either = p.either; held = p.held }
to Either n p = record { class = p.class; either = n; held = p.held }
to Held n p = record { class = p.class; either = p.either; held = n }

-- hence how far the combinations of a standing
abbrev reach : (class either : ℕ) → Standing → ℕ
reach i e standing.In = i
reach i e standing.Out = 0
reach i e standing.Either = e

-- what was read of r, before its profile
abbrev having : Far → Record → Record
having p r =
    record { marks = r.marks; profile = None; standing = λ c. up_to standing.Out (reach p.class p.either (r.standing c)) r.standing c; times = up_to 0 p.held r.times }

-- the standings with one combination more: n where it stands in the section, and nothing else
module _ (f : ℕ → Standing) (n : ℕ) where
  class_next : (c e : ℕ) (v : Standing) → (is_in v ≡ true → c ≡ n → ⊥) → up_to standing.Out (reach n e v) f c ≡ up_to standing.Out (reach (suc n) e v) f c
  class_next c e standing.In h = up_to_next standing.Out f n c (h refl)
  class_next c e standing.Out h = refl
  class_next c e standing.Either h = refl

  either_next : (c i : ℕ) (v : Standing) → (is_either v ≡ true → c ≡ n → ⊥) → up_to standing.Out (reach i n v) f c ≡ up_to standing.Out (reach i (suc n) v) f c
  either_next c i standing.In h = refl
  either_next c i standing.Out h = refl
  either_next c i standing.Either h = up_to_next standing.Out f n c (h refl)

  class_here : (e : ℕ) (v : Standing) → f n ≡ v → is_in v ≡ true → up_to standing.Out (reach (suc n) e v) f n ≡ standing.In
  class_here e standing.In k y = up_to_low standing.Out f (suc n) n (omega arith) ∙ k
  class_here e standing.Out k y = clash y refl
  class_here e standing.Either k y = clash y refl

  either_here : (i : ℕ) (v : Standing) → f n ≡ v → is_either v ≡ true → up_to standing.Out (reach i (suc n) v) f n ≡ standing.Either
  either_here i standing.In k y = clash y refl
  either_here i standing.Out k y = clash y refl
  either_here i standing.Either k y = up_to_low standing.Out f (suc n) n (omega arith) ∙ k

having_skip : (s : Section) (n : ℕ) (r : Record) (p : Far) → stands_in s r n ≡ false → having (to s n p) r ≡ having (to s (suc n) p) r
having_skip Class n r p e =
    ap (λ (f : ℕ → Standing). with_standing f (having p r))
    (fun_ext (λ c. class_next r.standing n c p.either (r.standing c) (λ y q. clash (ap (λ (x : ℕ). is_in (r.standing x)) (sym q) ∙ y) e)))
having_skip Either n r p e =
    ap (λ (f : ℕ → Standing). with_standing f (having p r))
    (fun_ext (λ c. either_next r.standing n c p.class (r.standing c) (λ y q. clash (ap (λ (x : ℕ). is_either (r.standing x)) (sym q) ∙ y) e)))
having_skip Held n r p e = ap (λ (f : ℕ → ℕ). with_times f (having p r)) (up_to_skip 0 r.times n (omega (arith, ltb-false 0 (r.times n) e)))

having_added : (s : Section) (n : ℕ) (r : Record) (p : Far) → stands_in s r n ≡ true → added s (having (to s n p) r) n (number_behind s r n) ≡ having (to s (suc n) p) r
having_added Class n r p e =
    ap (λ (f : ℕ → Standing). with_standing f (having p r))
    (updated-is n standing.In _ _ (class_here r.standing n p.either (r.standing n) refl e)
    (λ c o. sym (class_next r.standing n c p.either (r.standing c) (λ y. o))))
having_added Either n r p e =
    ap (λ (f : ℕ → Standing). with_standing f (having p r))
    (updated-is n standing.Either _ _ (either_here r.standing n p.class (r.standing n) refl e)
    (λ c o. sym (either_next r.standing n c p.class (r.standing c) (λ y. o))))
having_added Held n r p e = ap (λ (f : ℕ → ℕ). with_times f (having p r)) (up_to_updated 0 r.times n)

-- the section takes the combination: it does not stand in the section that it may not stand in
either_not_in : (v : Standing) → is_either v ≡ true → is_in v ≡ false
either_not_in standing.In e = sym e
either_not_in standing.Out e = refl
either_not_in standing.Either e = refl

not_shown : (test : Standing → Bool) (b : Bool) (v : Standing) → test v ≡ false → test standing.Out ≡ false → not (test (cond b v standing.Out)) ≡ true
not_shown test true v e out = ap not e
not_shown test false v e out = ap not out

taken : {most : ℕ} (s : Section) (n : ℕ) (r : Record) (p : Far) → Storable most r → stands_in s r n ≡ true → takes s (having (to s n p) r) n ≡ true
taken Class n r p st e = refl
taken Either n r p st e = not_shown is_in (ltb n (reach p.class n (r.standing n))) (r.standing n) (either_not_in (r.standing n) e) refl
taken Held n r p st e =
    not_shown is_either (ltb n (reach p.class p.either (r.standing n))) (r.standing n)
    (if (is_either (r.standing n)) (λ y. absurd (omega (arith, st.apart n y, ltb-true 0 (r.times n) e))) (λ z. z)) refl

-- the seconds below n and those of n are at most all of them
up_to-le : (f : ℕ → ℕ) (n x : ℕ) → up_to 0 n f x ≤ f x
up_to-le f n x = only-le (ltb x n) (f x)

below_held : (f : ℕ → ℕ) (N n : ℕ) → n < N → sum N (up_to 0 n f) + f n ≤ sum N f
below_held f N n h =
    let grown = sum_change N (up_to 0 n f) (up_to 0 (suc n) f) n (f n) h (λ y ly d. sym (up_to_next 0 f n y d))
    (omega (arith, up_to_low 0 f (suc n) n (omega arith), up_to_high 0 f n n (omega arith))) in
    omega (arith, grown, sum-le N (up_to 0 (suc n) f) f (λ y ly. up_to-le f (suc n) y))

-- what is behind a combination may stand there, and fits its bytes
may_stand-true : (s : Section) (n : ℕ) (r : Record) (p : Far) → n < 2 ^ r.marks → held_in r ≤ most_held → stands_in s r n ≡ true
    → may_stand s (held_in (having (to s n p) r)) (number_behind s r n) ≡ true
may_stand-true Class n r p h most e = refl
may_stand-true Either n r p h most e = refl
may_stand-true Held n r p h most e =
    let v = r.times n in
    let so_far = sum (2 ^ r.marks) (up_to 0 n r.times) in
    let fits : so_far + v ≤ most_held = omega (arith, below_held r.times (2 ^ r.marks) n h) in
    rw (le-leb 1 v (ltb-true 0 v e), le-leb (so_far + v) most_held fits)

behind_fits : (s : Section) (n : ℕ) (r : Record) → n < 2 ^ r.marks → held_in r ≤ most_held → number_behind s r n < 256 ^ bytes_behind s
behind_fits Class n r h most = omega arith
behind_fits Either n r h most = omega arith
behind_fits Held n r h most = omega (arith, sum_term (2 ^ r.marks) r.times n h)

-- any section
module _ {most : ℕ} (o : Outcome) (s : Section) (rest : Rest) (r : Record) (p : Far) (st : Storable most r) where
  entry_back : (n k low at : ℕ) (l : List ℕ) → n < 2 ^ r.marks → low ≤ n → stands_in s r n ≡ true
      → ((a : ℕ) → Run most (entries_due s rest (having (to s (suc n) p) r) k (n + 1)) a l o)
      → Run most (entries_due s rest (having (to s n p) r) (suc k) low) at (entry_of s r n ++ l) o
  unfolding judge
  entry_back n k low at l h hl e next =
      let b = having (to s n p) r in
      let w = bytes_behind s in
      let x = number_behind s r n in
      goes (combination s rest b k low) (n ∷ (bytes w x ++ l)) (due (behind s rest b k n)) (omega arith)
      (rw (number_one n (bytes w x ++ l), le-leb low n hl, lt-ltb n (2 ^ r.marks) h, taken s n r p st e))
      (goes (behind s rest b k n) (bytes w x ++ l) (entries_due s rest (having (to s (suc n) p) r) k (n + 1)) (omega (arith, length-append (bytes w x) l, bytes-length w x))
      (rw (number_front w x l (behind_fits s n r h st.held_le_most), may_stand-true s n r p h st.held_le_most e)
      (ap (λ (u : Record). entries_due s rest u k (n + 1)) (having_added s n r p e)))
      (rw (drop_front w x l) (next (at + 1 + w))))

  turn : (n k : ℕ) (l : List ℕ) → n < 2 ^ r.marks → ((a low : ℕ) → low ≤ suc n → Run most (entries_due s rest (having (to s (suc n) p) r) k low) a l o) → (b : Bool)
      → stands_in s r n ≡ b → (at low : ℕ) → low ≤ n → Run most (entries_due s rest (having (to s n p) r) (only b 1 + k) low) at (cond b (entry_of s r n) [] ++ l) o
  turn n k l h next true e at low hl =
      let one : 1 + k ≡ suc k = omega arith in
      rw one (entry_back n k low at l h hl e (λ a. next a (n + 1) (omega arith)))
  turn n k l h next false e at low hl = rw (zero-add k, having_skip s n r p e) (next at low (omega arith))

  entries_back : (n k : ℕ) (l : List ℕ) → n ≤ 2 ^ r.marks → ((a low : ℕ) → low ≤ n → Run most (entries_due s rest (having (to s n p) r) k low) a l o) → (at : ℕ)
      → Run most (entries_due s rest (having (to s 0 p) r) (count (stands_in s r) n + k) 0) at (listed (stands_in s r) (entry_of s r) n ++ l) o
  unfolding listed sum
  entries_back zero k l h next at = rw (zero-add k) (next at 0 (omega arith))
  entries_back (suc n) k l h next at =
      let b = stands_in s r n in
      let i = entries_back n (only b 1 + k) (cond b (entry_of s r n) [] ++ l) (omega arith) (turn n k l (omega arith) next b refl) at in
      let e : count (stands_in s r) n + only b 1 + k ≡ count (stands_in s r) n + (only b 1 + k) = omega arith in
      rw (e, append_assoc (listed (stands_in s r) (entry_of s r) n) (cond b (entry_of s r n) []) l) i

  section_back : r.marks ≤ 15 → (l : List ℕ) → ((a : ℕ) → Run most (rest_due rest (having (to s (2 ^ r.marks) p) r)) a l o) → (at : ℕ)
      → Run most (rest_due (more s rest) (having (to s 0 p) r)) at (section s r ++ l) o
  unfolding judge
  section_back few l next at =
      let N = 2 ^ r.marks in
      let n = size_of r.marks (stands_in s r) in
      let list = listed (stands_in s r) (entry_of s r) N in
      let b = having (to s 0 p) r in
      let inside : n ≤ N = count_le (stands_in s r) N in
      let small : n < 256 ^ 2 = omega (arith, inside, pow-le-pow_right {n = 2} (omega arith) {i = r.marks} {j = 15} few) in
      let i = entries_back N 0 l (omega arith) (λ a low h. next a) (at + 2) in
      rw (append_assoc (bytes 2 n) list l)
      (goes (count-due s rest b) (bytes 2 n ++ (list ++ l)) (entries_due s rest b n 0) (omega (arith, length-append (bytes 2 n) (list ++ l), bytes-length 2 n))
      (rw (number_front 2 n (list ++ l) small, le-leb n N inside))
      (rw (drop_front 2 n (list ++ l)) (subst (λ (k : ℕ). Run most (entries_due s rest b k 0) (at + 2) (list ++ l) o) (add-zero n) i)))

-- whatever follows, no section of which was read before
abbrev through : ℕ → Rest → Far → Far
through N nothing p = p
through N profile p = p
through N (more s rest) p = through N rest (to s N p)

abbrev Fresh : ℕ → Rest → Far → Type 0
Fresh N nothing p = Unit {0}
Fresh N profile p = Unit {0}
Fresh N (more s rest) p = (to s 0 p ≡ p) × Fresh N rest (to s N p)

-- the profile that is read
abbrev carried : Rest → Profile → Profile
carried nothing p = None
carried profile p = p
carried (more s rest) p = carried rest p

-- what is read in the end
abbrev outcome : Rest → Far → Record → Record
outcome rest p r = with_profile (carried rest r.profile) (having (through (2 ^ r.marks) rest p) r)

rest_back : {most : ℕ} (r : Record) → Storable most r → r.marks ≤ 15 → (rest : Rest) (p : Far) → Fresh (2 ^ r.marks) rest p → Obeys (outcome rest p r) → (at : ℕ)
    → Run most (rest_due rest (having p r)) at (rest_of rest r) (good (outcome rest p r))
rest_back r st few nothing p f obeys at = done
rest_back r st few profile p f obeys at = profile_back r.profile (having p r) at st.profile obeys
rest_back {most} r st few (more s rest) p f obeys at =
    let N = 2 ^ r.marks in
    let o = good (outcome rest (to s N p) r) in
    subst (λ (q : Far). Run most (rest_due (more s rest) (having q r)) at (section s r ++ rest_of rest r) o) f.0
    (section_back o s rest r p st few (rest_of rest r) (rest_back r st few rest (to s N p) f.1 obeys) at)

-- before the first section nothing is read, and behind the last all that the layout tells

abbrev unread : Far
unread = record { class = 0; either = 0; held = 0 }

fresh : (N : ℕ) (layout : Layout) → Fresh N (sections layout) unread
fresh N First = (refl, (refl, tt))
fresh N Today = (refl, (refl, (refl, tt)))

reach_none : (v : Standing) → reach 0 0 v ≡ 0
reach_none standing.In = refl
reach_none standing.Out = refl
reach_none standing.Either = refl

having_none : (r : Record) → having unread r ≡ opened r.marks
having_none r =
    ap₂ (λ (f : ℕ → Standing) (g : ℕ → ℕ). record { marks = r.marks; profile = None; standing = f; times = g })
    (fun_ext (λ c. up_to_high standing.Out r.standing _ c (omega (arith, reach_none (r.standing c))))) (up_to_none 0 r.times)

-- the record without what is at 2^m and above
abbrev pub cut : Record → Record
cut r = record { marks = r.marks; profile = r.profile; standing = up_to standing.Out (2 ^ r.marks) r.standing; times = up_to 0 (2 ^ r.marks) r.times }

up_to_out : (f : ℕ → Standing) (n c : ℕ) → f c ≡ standing.Out → up_to standing.Out n f c ≡ standing.Out
up_to_out f n c e = below_or c n (λ l. up_to_low standing.Out f n c l ∙ e) (λ l. up_to_high standing.Out f n c l)

reach_all : (f : ℕ → Standing) (N e c : ℕ) → e ≤ N → (v : Standing) → f c ≡ v → (is_either v ≡ true → c < N → e ≡ N)
    → up_to standing.Out (reach N e v) f c ≡ up_to standing.Out N f c
reach_all f N e c h standing.In k all = refl
reach_all f N e c h standing.Out k all = up_to_out f 0 c k ∙ sym (up_to_out f N c k)
reach_all f N e c h standing.Either k all =
    below_or c N (λ l. ap (λ (x : ℕ). up_to standing.Out x f c) (all refl l))
    (λ l. up_to_high standing.Out f e c (omega arith) ∙ sym (up_to_high standing.Out f N c l))

outcome_all : (layout : Layout) (r : Record) → Tells layout r → outcome (sections layout) unread r ≡ cut r
outcome_all First r tells =
    ap₂ (λ (p : Profile) (f : ℕ → Standing). with_profile p (with_standing f (cut r))) (sym tells.profile)
    (fun_ext (λ c. reach_all r.standing (2 ^ r.marks) 0 c (omega arith) (r.standing c) refl
    (λ y l. clash y (tells.absent Either (λ e. omega arith, (λ e. omega arith, tt)) c l))))
outcome_all Today r tells =
    ap (λ (f : ℕ → Standing). with_standing f (cut r))
    (fun_ext (λ c. reach_all r.standing (2 ^ r.marks) (2 ^ r.marks) c (omega arith) (r.standing c) refl (λ y l. refl)))

cut_obeys : (r : Record) → Obeys r → Obeys (cut r)
cut_obeys r obeys c l b = ap is_either (up_to_low standing.Out r.standing (2 ^ r.marks) c l) ∙ obeys c l b

-- what is written of a record that the layout tells is read as it, without that
pub reads_back : {most : ℕ} (layout : Layout) (r : Record) → most ≤ 15 → Storable most r → Tells layout r → ReadingBy layout most (form_by layout r) (good (cut r))
unfolding judge form_by
reads_back {most} layout r few st tells =
    let m = r.marks in
    let le : m ≤ 15 = omega (arith, marks_most most m st.marks) in
    let all_read = outcome_all layout r tells in
    let all = rest_back r st le (sections layout) unread (fresh (2 ^ m) layout) (subst Obeys (sym all_read) (cut_obeys r st.obeys)) 1 in
    let l = rest_of (sections layout) r in
    goes (marks (sections layout)) (m ∷ l) (rest_due (sections layout) (opened m)) (omega arith) (rw (number_one m l, st.marks))
    (subst (λ (u : Record). Run most (rest_due (sections layout) u) 1 l (good (cut r))) (having_none r)
    (subst (λ (u : Record). Run most (rest_due (sections layout) (having unread r)) 1 l (good u)) all_read all))
