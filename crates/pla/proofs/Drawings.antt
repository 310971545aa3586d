-- What a good text draws: 1 to `most` marks, no profile, the union of its cube lines as class, and nothing held. Line by line: a cube adds its
-- combinations, and no other line does.
use Prim.Native.Nat.{ℕ, ◌^◌, ◌<◌}
use mathlib.Core.Path.{◌≡◌, refl, sym, ap, subst, ◌∙◌}
use mathlib.Core.Bool.{Bool, true, false, not, cond, ◌&&◌, ◌||◌}
use mathlib.Core.List.{List, [], ◌∷◌, ◌++◌, cons≢nil}
use mathlib.Core.Logic.{◌⊎◌, inl, inr, ⊎_elim}
use native.Mathlib.Omega.{arith}
use lib.Dec.{eqb, ltb}
use lib.ListN.{length}
use borrow.Author.Tests.{ltb-true, eqb-true}
use Rattle.ground.specs.Decides.{Decides}
use Rattle.ground.proofs.Cases.{clash, and_left}
use Rattle.boxes.specs.Boxes.{contains}
use Rattle.boxes.proofs.Boxes.{contains_combination}
use Rattle.lists.specs.Lists.{covered}
use Rattle.lists.proofs.Count.{covered_last}
use Rattle.profiles.specs.declared.Profile.TheVariants.{None}
use Rattle.classes.specs.Standings.{is_in, is_out, is_either}
use Rattle.classes.specs.declared.Standing.TheVariants.{In, Out}
use Rattle.sheet.specs.Limits.{marks_ok}
use Rattle.sheet.specs.Record.{Record, in_class, NoneEither}
use Rattle.stored.specs.Fields.{Outcome, good, refused}
use Rattle.pla.specs.Texts.{words_of, lines_of}
use Rattle.pla.specs.Sayings.{Saying, blank, inputs, output, count, cube, end, Says, no_word, dot_i, dot_o, dot_p, drawn, dot_e}
use Rattle.pla.specs.Reading.{Count, uncounted, counted, is_counted, Said, nothing_said, drawn_by, agreed, comes_to, on, stop, judge, Run, over, unreadable, stopped, taken, PlaSays, Drawn, here, later}
use Rattle.pla.proofs.Sayings.{says_one}

-- a disjunction that holds

or_left : (x y : Bool) → x ≡ true → (x || y) ≡ true
or_left x y e = rw e

or_right : (x y : Bool) → y ≡ true → (x || y) ≡ true
or_right true y e = refl
or_right false y e = e

or_either : (x y : Bool) → (x || y) ≡ true → (x ≡ true) ⊎ (y ≡ true)
or_either true y e = inl refl
or_either false y e = inr e

-- sayings told apart

same_cube : {a b : ℕ} → cube a ≡ cube b → a ≡ b
same_cube e = cc

cube_not_end : {b : ℕ} → cube b ≡ end → ⊥
cube_not_end e = let z : ◌≡◌ {A = ℕ} 0 1 = cc in omega arith

-- what is known of the lines before: inputs that came are right, and `.o` came behind them
record Right (most : ℕ) (s : Said) : Type 0 where
  marks : 0 < s.inputs → marks_ok most s.inputs ≡ true
  order : s.output ≡ true → 0 < s.inputs

-- behind these lines, the lines ls draw r
record Draws (most : ℕ) (s : Said) (ls : List (List ℕ)) (r : Record) : Type 0 where
  last : Said
  right : marks_ok most last.inputs ≡ true
  is : r ≡ drawn_by last
  keeps : 0 < s.inputs → last.inputs ≡ s.inputs
  more : (c : ℕ) → covered last.inputs s.cubes c ≡ true → covered last.inputs last.cubes c ≡ true
  lines : (c : ℕ) → Drawn last.inputs c ls → covered last.inputs last.cubes c ≡ true
  only_these : (c : ℕ) → covered last.inputs last.cubes c ≡ true → (covered last.inputs s.cubes c ≡ true) ⊎ Drawn last.inputs c ls

-- a line that is no cube and not the end
not_here : {m c : ℕ} {line : List ℕ} {rest : List (List ℕ)} → ((b : ℕ) → Says m (words_of line) (cube b) → ⊥) → Drawn m c (line ∷ rest) → Drawn m c rest
not_here n (here {b = b} y e) = absurd (n b y)
not_here n (later h d) = d

other_line : {most : ℕ} {s u : Said} {line : List ℕ} {rest : List (List ℕ)} {r : Record} → ((m b : ℕ) → Says m (words_of line) (cube b) → ⊥)
    → ((m : ℕ) → Says m (words_of line) end → ⊥) → u.cubes ≡ s.cubes → (0 < s.inputs → u.inputs ≡ s.inputs) → (0 < s.inputs → 0 < u.inputs)
    → Draws most u rest r → Draws most s (line ∷ rest) r
other_line {most} {s} {u} {line} {rest} no_cube no_end same stays some d =
    let m = d.last.inputs in
    let l = d.last.cubes in
    record {
      last = d.last;
      right = d.right;
      is = d.is;
      keeps = λ h. d.keeps (some h) ∙ stays h;
      more = λ c e. d.more c (ap (λ (k : List ℕ). covered m k c) same ∙ e);
      lines = λ c e. d.lines c (not_here (no_cube m) e);
      only_these = λ c e. ⊎_elim (λ w. inl (ap (λ (k : List ℕ). covered m k c) (sym same) ∙ w)) (λ w. inr (later (no_end m) w)) (d.only_these c e);
    }

-- a cube
cube_line : {most : ℕ} {s u : Said} {line : List ℕ} {rest : List (List ℕ)} {r : Record} (b : ℕ) → 0 < s.inputs → Says s.inputs (words_of line) (cube b)
    → u.inputs ≡ s.inputs → u.cubes ≡ s.cubes ++ b ∷ [] → Draws most u rest r → Draws most s (line ∷ rest) r
cube_line {most} {s} {u} {line} {rest} b some y same more d =
    let m = d.last.inputs in
    let l = d.last.cubes in
    let stays : m ≡ s.inputs = d.keeps (omega (arith, same, some)) ∙ same in
    let said : Says m (words_of line) (cube b) = subst (λ (k : ℕ). Says k (words_of line) (cube b)) (sym stays) y in
    let one_more : (c : ℕ) → covered m u.cubes c ≡ (covered m s.cubes c || contains m b c) =
    λ c. ap (λ (k : List ℕ). covered m k c) more ∙ covered_last m s.cubes b c in
    record {
      last = d.last;
      right = d.right;
      is = d.is;
      keeps = λ h. stays;
      more = λ c e. d.more c (one_more c ∙ or_left _ _ e);
      lines = λ c. drawn_line c said (one_more c);
      only_these = λ c e. ⊎_elim
          (λ w. ⊎_elim inl (λ v. inr (here said v)) (or_either _ _ (sym (one_more c) ∙ w)))
          (λ w. inr (later (no_end said) w)) (d.only_these c e);
    }
  where
    no_end : {m : ℕ} → Says m (words_of line) (cube b) → Says m (words_of line) end → ⊥
    no_end p q = cube_not_end (says_one p q)

    drawn_line : (c : ℕ) → Says d.last.inputs (words_of line) (cube b)
        → covered d.last.inputs u.cubes c ≡ (covered d.last.inputs s.cubes c || contains d.last.inputs b c)
        → Drawn d.last.inputs c (line ∷ rest) → covered d.last.inputs d.last.cubes c ≡ true
    drawn_line c p q (here {b = a} y e) =
        d.more c (q ∙ or_right (covered d.last.inputs s.cubes c) (contains d.last.inputs b c) (ap (λ (z : ℕ). contains d.last.inputs z c) (same_cube (says_one p y)) ∙ e))
    drawn_line c p q (later h e) = d.lines c e

-- judgements that go on

on_same : {s u : Said} → on s ≡ on u → s ≡ u
on_same e = cc

stop_not_on : {o : Outcome} {u : Said} → stop o ≡ on u → ⊥
stop_not_on {o} {u} e = let z : ◌≡◌ {A = ℕ} 0 1 = cc in omega arith

went_on : (t : Bool) (s : Said) (o : Outcome) {u : Said} → cond t (on s) (stop o) ≡ on u → (t ≡ true) × (s ≡ u)
went_on true s o e = (refl, on_same e)
went_on false s o e = absurd (stop_not_on e)

stop_same : {o u : Outcome} → stop o ≡ stop u → o ≡ u
stop_same e = cc

-- and an end that is good
refused_not_good : {k p : ℕ} {r : Record} → refused k p ≡ good r → ⊥
refused_not_good {r = r} e = let z : ◌≡◌ {A = ℕ} 0 1 = cc in omega arith

good_same : {q r : Record} → good q ≡ good r → q ≡ r
good_same e = cc

agreed_good : (q : Record) (k : ℕ) (n : Count) {r : Record} → agreed q k n ≡ good r → q ≡ r
agreed_good q k uncounted e = good_same e
agreed_good q k (counted n at) {r} e = go (eqb n k) e
  where
    go : (t : Bool) → cond t (good q) (refused 10 at) ≡ good r → q ≡ r
    go true e = good_same e
    go false e = absurd (refused_not_good e)

comes_good : (size : ℕ) (s : Said) {r : Record} → comes_to size s ≡ good r → (0 < s.inputs) × (r ≡ drawn_by s)
comes_good size s {r} e = go (ltb 0 s.inputs) s.output refl e
  where
    go : (t v : Bool) → ltb 0 s.inputs ≡ t → cond (t && v) (agreed (drawn_by s) (length s.cubes) s.count) (refused 10 size) ≡ good r
        → (0 < s.inputs) × (r ≡ drawn_by s)
    go true true q e = (ltb-true 0 s.inputs q, sym (agreed_good (drawn_by s) (length s.cubes) s.count e))
    go true false q e = absurd (refused_not_good e)
    go false v q e = absurd (refused_not_good e)

-- at the end
at_end : {most : ℕ} (size : ℕ) (s : Said) (ls : List (List ℕ)) {r : Record} → Right most s → ((m c : ℕ) → Drawn m c ls → ⊥) → comes_to size s ≡ good r
    → Draws most s ls r
at_end size s ls right none e =
    let w = comes_good size s e in
    record {
      last = s;
      right = right.marks w.0;
      is = w.1;
      keeps = λ h. refl;
      more = λ c q. q;
      lines = λ c d. absurd (none s.inputs c d);
      only_these = λ c q. inl q;
    }

nothing_behind : {m c : ℕ} → Drawn m c [] → ⊥
nothing_behind d = no_lines d refl
  where
    no_lines : {m c : ℕ} {ls : List (List ℕ)} → Drawn m c ls → ls ≡ [] → ⊥
    no_lines (here y e) q = cons≢nil q
    no_lines (later h d) q = cons≢nil q

end_drawn : {k m c : ℕ} {line : List ℕ} {rest : List (List ℕ)} → Says k (words_of line) end → Drawn m c (line ∷ rest) → ⊥
end_drawn (dot_e e) (here y q) = cube_not_end (says_one y (dot_e e))
end_drawn (dot_e e) (later h d) = h (dot_e e)

-- a line that is no cube says the same in a text of any inputs; it is then no cube there, and not the end

abbrev is_cube : Saying → Bool
is_cube blank = false
is_cube (inputs n) = false
is_cube output = false
is_cube (count n) = false
is_cube (cube b) = true
is_cube end = false

abbrev is_end : Saying → Bool
is_end blank = false
is_end (inputs n) = false
is_end output = false
is_end (count n) = false
is_end (cube b) = false
is_end end = true

in-any : {k : ℕ} {ws : List (List ℕ)} {x : Saying} → Says k ws x → is_cube x ≡ false → (m : ℕ) → Says m ws x
in-any (no_word e) f m = no_word e
in-any (dot_i e) f m = dot_i e
in-any (dot_o e) f m = dot_o e
in-any (dot_p e) f m = dot_p e
in-any (drawn l e) f m = clash refl f
in-any (dot_e e) f m = dot_e e

no_cube : {k : ℕ} {ws : List (List ℕ)} {x : Saying} → Says k ws x → is_cube x ≡ false → (m b : ℕ) → Says m ws (cube b) → ⊥
no_cube y f m b z = clash (ap is_cube (says_one (in-any y f m) z)) f

no_end : {k : ℕ} {ws : List (List ℕ)} {x : Saying} → Says k ws x → is_cube x ≡ false → is_end x ≡ false → (m : ℕ) → Says m ws end → ⊥
no_end y f g m z = clash (ap is_end (says_one (in-any y f m) z)) g

-- what a line makes of the lines before: if it stops the reading well it is the end; if it goes on, `Right` stays, and the cubes are drawn
module _ (most size : ℕ) where
  stop_bad : {o : Outcome} {r : Record} {k p : ℕ} → stop (refused k p) ≡ stop o → o ≡ good r → ⊥
  stop_bad j e = refused_not_good (stop_same j ∙ e)

  unsaid : (t : Bool) (u : Said) (at : ℕ) {o : Outcome} {r : Record} → cond t (on u) (stop (refused 10 at)) ≡ stop o → o ≡ good r → ⊥
  unsaid true u at j e = stop_not_on (sym j)
  unsaid false u at j e = stop_bad j e

  stops_well : (s : Said) (at : ℕ) (x : Saying) {o : Outcome} {r : Record} → judge most size s at x ≡ stop o → o ≡ good r → (x ≡ end) × (comes_to size s ≡ good r)
  stops_well s at blank j e = absurd (stop_not_on (sym j))
  stops_well s at (inputs n) {o} {r} j e = absurd (go (eqb s.inputs 0) (marks_ok most n) _ j)
    where
      go : (t v : Bool) (u : Said) → cond t (cond v (on u) (stop (refused 1 0))) (stop (refused 10 at)) ≡ stop o → ⊥
      go true true u j = stop_not_on (sym j)
      go true false u j = stop_bad j e
      go false v u j = stop_bad j e
  stops_well s at output j e = absurd (unsaid (ltb 0 s.inputs && not s.output) _ at j e)
  stops_well s at (count n) {o} {r} j e = absurd (go (is_counted s.count) _ j)
    where
      go : (t : Bool) (u : Said) → cond t (stop (refused 10 at)) (on u) ≡ stop o → ⊥
      go true u j = stop_bad j e
      go false u j = stop_not_on (sym j)
  stops_well s at (cube b) j e = absurd (unsaid s.output _ at j e)
  stops_well s at end j e = (refl, stop_same j ∙ e)

  abbrev Behind : Said → List (List ℕ) → Record → Type 0
  Behind u rest r = Right most u → Draws most u rest r

  goes_on : (s u : Said) (at : ℕ) (line : List ℕ) (rest : List (List ℕ)) (x : Saying) {r : Record} → Right most s → Says s.inputs (words_of line) x
      → judge most size s at x ≡ on u → Behind u rest r → Draws most s (line ∷ rest) r
  goes_on s u at line rest blank {r} right y j behind =
      other_line (no_cube y refl) (no_end y refl refl) refl (λ h. refl) (λ h. h) (subst (λ (z : Said). Behind z rest r) (sym (on_same j)) behind right)
  goes_on s u at line rest (inputs n) {r} right y j behind = go (eqb s.inputs 0) (marks_ok most n) refl refl j
    where
      go : (t v : Bool) → eqb s.inputs 0 ≡ t → marks_ok most n ≡ v
          → cond t (cond v (on (record { inputs = n; output = s.output; count = s.count; cubes = s.cubes })) (stop (refused 1 0))) (stop (refused 10 at)) ≡ on u
          → Draws most s (line ∷ rest) r
      go true true z ok j =
          let none : s.inputs ≡ 0 = eqb-true s.inputs 0 z in
          other_line (no_cube y refl) (no_end y refl refl) refl (λ h. absurd (omega (arith, none, h))) (λ h. absurd (omega (arith, none, h)))
          (subst (λ (z : Said). Behind z rest r) (sym (on_same j)) behind
          (record { marks = λ h. ok; order = λ e. absurd (omega (arith, none, right.order e)) }))
      go true false z ok j = absurd (stop_not_on j)
      go false v z ok j = absurd (stop_not_on j)
  goes_on s u at line rest output {r} right y j behind =
      let w = went_on (ltb 0 s.inputs && not s.output) (record { inputs = s.inputs; output = true; count = s.count; cubes = s.cubes }) (refused 10 at) j in
      other_line (no_cube y refl) (no_end y refl refl) refl (λ h. refl) (λ h. h)
      (subst (λ (z : Said). Behind z rest r) (sym w.1) behind
      (record { marks = right.marks; order = λ e. ltb-true 0 s.inputs (and_left _ _ w.0) }))
  goes_on s u at line rest (count n) {r} right y j behind = go (is_counted s.count) j
    where
      go : (t : Bool) → cond t (stop (refused 10 at)) (on (record { inputs = s.inputs; output = s.output; count = counted n at; cubes = s.cubes })) ≡ on u
          → Draws most s (line ∷ rest) r
      go true j = absurd (stop_not_on j)
      go false j =
          other_line (no_cube y refl) (no_end y refl refl) refl (λ h. refl) (λ h. h)
          (subst (λ (z : Said). Behind z rest r) (sym (on_same j)) behind (record { marks = right.marks; order = right.order }))
  goes_on s u at line rest (cube b) {r} right y j behind =
      let w = went_on s.output (record { inputs = s.inputs; output = true; count = s.count; cubes = s.cubes ++ b ∷ [] }) (refused 10 at) j in
      cube_line b (right.order w.0) y refl refl
      (subst (λ (z : Said). Behind z rest r) (sym w.1) behind (record { marks = right.marks; order = λ e. right.order w.0 }))
  goes_on s u at line rest end right y j behind = absurd (stop_not_on j)

  draws : {s : Said} {at : ℕ} {ls : List (List ℕ)} {o : Outcome} {r : Record} → Right most s → Run most size s at ls o → o ≡ good r → Draws most s ls r
  draws {s} right over e = at_end size s [] right (λ m c. nothing_behind) e
  draws right (unreadable n) e = absurd (refused_not_good e)
  draws {s} {at} right (stopped {line = line} {rest = rest} {x = x} y j) e =
      let w = stops_well s at x j e in
      at_end size s (line ∷ rest) right (λ m c. end_drawn (subst (Says s.inputs (words_of line)) w.0 y)) w.1
  draws {s} {at} right (taken {u = u} {line = line} {rest = rest} {x = x} y j z) e = goes_on s u at line rest x right y j (λ w. draws w z e)

-- the whole text

text_draws : {most : ℕ} {t : List ℕ} {r : Record} → PlaSays most t (good r) → Draws most nothing_said (lines_of t) r
text_draws {most} {t} p =
    draws most (length t) (record { marks = λ h. absurd (omega (arith, h)); order = λ e. clash e refl }) p.run refl

-- 1 to `most` marks
pub drawn_marks : {most : ℕ} {t : List ℕ} {r : Record} → PlaSays most t (good r) → marks_ok most r.marks ≡ true
drawn_marks {most} {t} {r} p = let d = text_draws p in ap (λ (x : Record). marks_ok most x.marks) d.is ∙ d.right

-- there is no profile
pub drawn_profile : {most : ℕ} {t : List ℕ} {r : Record} → PlaSays most t (good r) → r.profile ≡ None
drawn_profile p = ap (λ (x : Record). x.profile) (text_draws p).is

-- nothing is held
pub drawn_times : {most : ℕ} {t : List ℕ} {r : Record} → PlaSays most t (good r) → (c : ℕ) → r.times c ≡ 0
drawn_times p c = ap (λ (x : Record). x.times c) (text_draws p).is

-- what is in the class of a record that has no either combinations
pub in-alone : (e : Bool) → is_in (cond e In Out) ≡ e
in-alone true = refl
in-alone false = refl

either_alone : (e : Bool) → is_either (cond e In Out) ≡ false
either_alone true = refl
either_alone false = refl

not_out_alone : (e : Bool) → is_out (cond e In Out) ≡ false → e ≡ true
not_out_alone true w = refl
not_out_alone false w = clash refl w

-- THE CLASS IS THE UNION OF THE CUBES
pub drawn_class : {most : ℕ} {t : List ℕ} {r : Record} → PlaSays most t (good r) → (c : ℕ) → Decides (in_class r c) (Drawn r.marks c (lines_of t))
unfolding covered
drawn_class {most} {t} {r} p c =
    let d = text_draws p in
    subst (λ (x : Record). Decides (in_class x c) (Drawn x.marks c (lines_of t))) (sym d.is)
    (subst (λ (e : Bool). Decides e (Drawn d.last.inputs c (lines_of t))) (sym (in-alone (covered d.last.inputs d.last.cubes c)))
    (record { yes = λ e. ⊎_elim (λ w. clash w refl) (λ w. w) (d.only_these c e); sure = d.lines c }))

-- and what is not in it is out
pub drawn_plain : {most : ℕ} {t : List ℕ} {r : Record} → PlaSays most t (good r) → NoneEither r
drawn_plain p c =
    let d = text_draws p in
    ap (λ (x : Record). is_either (x.standing c)) d.is ∙ either_alone (covered d.last.inputs d.last.cubes c)

-- so it has combinations alone
drawn_below : {m c : ℕ} {ls : List (List ℕ)} → Drawn m c ls → c < 2 ^ m
drawn_below {m} {c} (here {b = b} y e) = contains_combination m b c e
drawn_below (later h d) = drawn_below d

pub drawn_combination : {most : ℕ} {t : List ℕ} {r : Record} → PlaSays most t (good r) → (c : ℕ) → is_out (r.standing c) ≡ false → c < 2 ^ r.marks
drawn_combination {r = r} p c e =
    let d = text_draws p in
    let drawn = covered d.last.inputs d.last.cubes c in
    let w = not_out_alone drawn (sym (ap (λ (x : Record). is_out (x.standing c)) d.is) ∙ e) in
    drawn_below ((drawn_class p c).yes (ap (λ (x : Record). in_class x c) d.is ∙ in-alone drawn ∙ w))
