-- What is read: its bytes are the form of the record that it is read as, so writing it gives the same bytes; and that record is one that a sheet can have.
-- A section goes by induction on how many combinations are left: what was listed so far with the bytes to come is the whole list. What is due goes
-- by induction, in its order.
use Prim.Native.Nat.{ℕ, zero, suc, ◌+◌, ◌^◌, ◌≤◌, ◌<◌}
use mathlib.Core.Path.{◌≡◌, refl, sym, ap, ap₂, ◌∙◌, subst}
use mathlib.Core.Bool.{Bool, true, false, ◌&&◌}
use mathlib.Core.List.{List, ◌∷◌, ◌++◌, append_assoc}
use native.Mathlib.Nat.{add-zero, zero-add}
use native.Mathlib.Omega.{arith}
use lib.ListN.{take, drop}
use lib.Dec.{leb, ltb}
use borrow.Author.Tests.{leb-true, ltb-true}
use Rattle.boxes.specs.Sums.{sum, only}
use Rattle.boxes.proofs.Sums.{sum_ext, sum-zero}
use Rattle.ground.proofs.Cases.{below_or, and_left, and_right}
use Rattle.profiles.specs.Profiles.{profile_ok}
use Rattle.profiles.specs.declared.Profile.{Profile}
use Rattle.profiles.specs.declared.Profile.TheVariants.{None}
use Rattle.classes.specs.Standings.{is_either}
use Rattle.classes.specs.declared.Standing.TheVariants.{Out}
use Rattle.sheet.specs.Limits.{marks_ok, most_held}
use Rattle.sheet.specs.Record.{Record, with_profile, Obeys, opened}
use Rattle.stored.specs.Sections.{Rest, nothing, profile, more, sections, bytes_behind, stands_in, number_behind, takes, held_in, may_stand, added}
use Rattle.stored.specs.Fields.{Bytes, number_in, behind, due, perhaps, rest_due, entries_due, judge, good, Run, ReadingBy}
use Rattle.stored.specs.Form.{bytes, listed, entry_of, section, rest_of, form_by}
use Rattle.stored.specs.declared.Layout.{Layout}
use Rattle.stored.specs.declared.Layout.TheVariants.{First, Today}
use Rattle.stored.specs.declared.Section.{Section}
use Rattle.stored.specs.declared.Section.TheVariants.{Class, Either, Held}
use Rattle.stored.proofs.Runs.{took, passed, ended}
use Rattle.stored.proofs.Numbers.{bytes_drop, bytes_split, byte_split, number_below}
use Rattle.stored.proofs.Listed.{count, listed_ext, listed_skip, count_skip, listed_take, count_take}
use Rattle.stored.proofs.Sections.{rank, Rising, rising, Misses, misses, opened_none, OnlyIn, only_same, only_then, added-only, added_other, stands_here, stands_other, entry_here, entry_other, held_more, held_most, still_apart, stands_same}
use Rattle.stored.proofs.Groups.{none_ok, none_obeys, profile_got}

-- a record that can be stored: its profile is not faulty and is obeyed, and an either combination holds nothing
pub record Storable (most : ℕ) (r : Record) : Type 0 where
  pub marks : marks_ok most r.marks ≡ true
  pub profile : profile_ok r.marks r.profile ≡ true
  pub obeys : Obeys r
  pub held_le_most : held_in r ≤ most_held
  pub apart : (c : ℕ) → is_either (r.standing c) ≡ true → r.times c ≡ 0

-- with nothing at 2^m and above
pub record Within (r : Record) : Type 0 where
  pub standing : (c : ℕ) → 2 ^ r.marks ≤ c → r.standing c ≡ Out
  pub times : (c : ℕ) → 2 ^ r.marks ≤ c → r.times c ≡ 0

-- where no profile stands, there is none
abbrev pub Carries : Rest → Profile → Type 0
Carries nothing p = p ≡ None
Carries profile p = Unit {0}
Carries (more s rest) p = Carries rest p

-- a layout tells the record: its combinations stand in no other section, and its profile if it has one
pub record Tells (layout : Layout) (r : Record) : Type 0 where
  pub absent : (u : Section) → Misses u (sections layout) → (c : ℕ) → c < 2 ^ r.marks → stands_in u r c ≡ false
  pub profile : Carries (sections layout) r.profile

-- today's layout tells every record, and 01's each that has no either combination and no profile

today_sections : (r : Record) (u : Section) → Misses u (sections Today) → (c : ℕ) → c < 2 ^ r.marks → stands_in u r c ≡ false
today_sections r Class miss c l = absurd (miss.0 refl)
today_sections r Either miss c l = absurd (miss.1.0 refl)
today_sections r Held miss c l = absurd (miss.1.1.0 refl)

pub today_tells : (r : Record) → Tells Today r
today_tells r = record { absent = today_sections r; profile = tt }

first_sections : (r : Record) → ((c : ℕ) → c < 2 ^ r.marks → is_either (r.standing c) ≡ false) → (u : Section) → Misses u (sections First) → (c : ℕ)
    → c < 2 ^ r.marks → stands_in u r c ≡ false
first_sections r none Class miss c l = absurd (miss.0 refl)
first_sections r none Either miss c l = none c l
first_sections r none Held miss c l = absurd (miss.1.0 refl)

pub first_tells : (r : Record) → ((c : ℕ) → c < 2 ^ r.marks → is_either (r.standing c) ≡ false) → r.profile ≡ None → Tells First r
first_tells r none plain = record { absent = first_sections r none; profile = plain }

-- what can be read before place k of the order: no profile, and nothing of the sections from there on
record Reached (most k : ℕ) (r : Record) : Type 0 where
  plain : r.profile ≡ None
  storable : Storable most r
  within : Within r
  none : (u : Section) → k ≤ rank u → (c : ℕ) → stands_in u r c ≡ false

opened_reached : {most : ℕ} (m : ℕ) → marks_ok most m ≡ true → Reached most 0 (opened m)
opened_reached m ok = record {
  plain = refl;
  storable = record { marks = ok; profile = refl; obeys = none_obeys (opened m) refl; held_le_most = omega (arith, sum-zero (2 ^ m)); apart = λ c e. refl };
  within = record { standing = λ c l. refl; times = λ c l. refl };
  none = λ u h c. opened_none m u c;
}

-- behind one more entry
module _ {most : ℕ} (s : Section) (r : Record) (c x : ℕ) (g : Reached most (suc (rank s)) r) (low : c < 2 ^ r.marks) (taken : takes s r c ≡ true)
    (may : may_stand s (held_in r) x ≡ true) (small : x < 256 ^ bytes_behind s) (fresh : stands_in s r c ≡ false) where
  entry_only : OnlyIn s r (added s r c x)
  entry_only = added-only s r c x taken (λ v h. g.none v h c)

  entry_reached : Reached most (suc (rank s)) (added s r c x)
  entry_reached =
      let e = entry_only.marks in
      let plain = entry_only.profile ∙ g.plain in
      let beyond : (y : ℕ) → 2 ^ (added s r c x).marks ≤ y → 2 ^ r.marks ≤ y = λ y l. omega (arith, ap (λ (m : ℕ). 2 ^ m) e) in
      let other : (y : ℕ) → 2 ^ r.marks ≤ y → ((added s r c x).standing y ≡ r.standing y) × ((added s r c x).times y ≡ r.times y) =
      λ y l. added_other s r c x y (λ q. omega arith) in
      record {
        plain = plain;
        storable = record {
          marks = ap (marks_ok most) e ∙ g.storable.marks;
          profile = none_ok (added s r c x).marks (added s r c x).profile plain;
          obeys = none_obeys (added s r c x) plain;
          held_le_most = omega (arith, held_most s (held_in r) x may small g.storable.held_le_most, held_more s r c x low fresh small);
          apart = still_apart s r c x taken (λ v h. g.none v h c) g.storable.apart;
        };
        within = record {
          standing = λ y l. (other y (beyond y l)).0 ∙ g.within.standing y (beyond y l);
          times = λ y l. (other y (beyond y l)).1 ∙ g.within.times y (beyond y l);
        };
        none = λ u h y. (entry_only.same u (λ q. omega arith) y).0 ∙ g.none u h y;
      }

-- the entries of a section, `left` of them with the combinations from `low` on
record EntriesGot (most : ℕ) (s : Section) (rest : Rest) (m : ℕ) (r q : Record) (left low : ℕ) (l : List ℕ) : Type 0 where
  value : Record
  at : ℕ
  tail : List ℕ
  run : Run most (rest_due rest value) at tail (good q)
  tail_bytes : Bytes tail
  only : OnlyIn s r value
  reached : Reached most (suc (rank s)) value
  list : listed (stands_in s r) (entry_of s r) low ++ l ≡ listed (stands_in s value) (entry_of s value) (2 ^ m) ++ tail
  many : count (stands_in s r) low + left ≡ count (stands_in s value) (2 ^ m)

entries_got : {most : ℕ} {q : Record} (s : Section) (rest : Rest) (m left low at : ℕ) (r : Record) (l : List ℕ) → r.marks ≡ m → low ≤ 2 ^ m → Bytes l
    → ((c : ℕ) → low ≤ c → stands_in s r c ≡ false) → Reached most (suc (rank s)) r → Run most (entries_due s rest r left low) at l (good q)
    → EntriesGot most s rest m r q left low l
unfolding judge
entries_got s rest m zero low at r l em h b z g x =
    record {
      value = r;
      at = at;
      tail = l;
      run = x;
      tail_bytes = b;
      only = only_same s r;
      reached = g;
      list = ap (λ (y : List ℕ). y ++ l) (sym (listed_skip (stands_in s r) (entry_of s r) low (2 ^ m) h z));
      many = add-zero _ ∙ sym (count_skip (stands_in s r) low (2 ^ m) h z);
    }
entries_got s rest m (suc left) low at r l em h b z g x =
    let w = took x in
    let c = number_in (take 1 l) in
    let p = passed (leb low c && (ltb c (2 ^ r.marks) && takes s r c)) (due (behind s rest r left c)) 10 w.1 in
    let u = took p.1 in
    let n = bytes_behind s in
    let l₁ = drop 1 l in
    let v = number_in (take n l₁) in
    let f = passed (may_stand s (held_in r) v) (entries_due s rest (added s r c v) left (c + 1)) 10 u.1 in
    let l₂ = drop n l₁ in
    let b₁ = bytes_drop 1 l b in
    let e = ap (λ (y : ℕ). 2 ^ y) em in
    let low_c : low ≤ c = leb-true low c (and_left _ _ p.0) in
    let judged = and_right (leb low c) _ p.0 in
    let c_m : c < 2 ^ r.marks = ltb-true c (2 ^ r.marks) (and_left _ _ judged) in
    let taken = and_right (ltb c (2 ^ r.marks)) _ judged in
    let small = number_below n l₁ b₁ in
    let r₂ = added s r c v in
    let only = entry_only s r c v g c_m taken f.0 small (z c low_c) in
    let i = entries_got s rest m left (c + 1) (at + 1 + n) r₂ l₂ (only.marks ∙ em) (omega arith) (bytes_drop n l₁ b₁)
    (λ y ly. stands_other s r c v y (λ d. omega arith) ∙ z y (omega arith)) (entry_reached s r c v g c_m taken f.0 small (z c low_c)) f.1 in
    let as_before : (y : ℕ) → y < c → stands_in s r₂ y ≡ stands_in s r y = λ y ly. stands_other s r c v y (λ d. omega arith) in
    let here = stands_here s r c (held_in r) v f.0 in
    let grows = listed_take (stands_in s r) (stands_in s r₂) low c low_c z as_before here (entry_of s r) (entry_of s r₂) (λ y ly. entry_other s r c v y (λ d. omega arith)) in
    let front = listed (stands_in s r) (entry_of s r) low in
    record {
      value = i.value;
      at = i.at;
      tail = i.tail;
      run = i.run;
      tail_bytes = i.tail_bytes;
      only = only_then only i.only;
      reached = i.reached;
      list =
          ap (λ (y : List ℕ). front ++ y) (byte_split l w.0 ∙ ap (λ (y : List ℕ). c ∷ y) (bytes_split n l₁ u.0 b₁))
          ∙ sym (append_assoc front (c ∷ bytes n v) l₂)
          ∙ ap (λ (y : List ℕ). y ++ l₂) (ap (λ (y : List ℕ). front ++ y) (sym (entry_here s r c v)) ∙ sym grows)
          ∙ i.list;
      many = omega (arith, i.many, count_take (stands_in s r) (stands_in s r₂) low c low_c z as_before here);
    }

-- a section, with its count in front
record SectionGot (most : ℕ) (s : Section) (rest : Rest) (r q : Record) (l : List ℕ) : Type 0 where
  entries : EntriesGot most s rest r.marks r q (number_in (take 2 l)) 0 (drop 2 l)
  split : l ≡ section s entries.value ++ entries.tail

section_got : {most at : ℕ} {q : Record} (s : Section) (rest : Rest) (r : Record) (l : List ℕ) → Bytes l → Reached most (rank s) r
    → Run most (rest_due (more s rest) r) at l (good q) → SectionGot most s rest r q l
unfolding judge listed sum
section_got {most} {at} {q} s rest r l b g x =
    let w = took x in
    let n = number_in (take 2 l) in
    let p = passed (leb n (2 ^ r.marks)) (entries_due s rest r n 0) 10 w.1 in
    let behind_it : Reached most (suc (rank s)) r = record { plain = g.plain; storable = g.storable; within = g.within; none = λ u h c. g.none u (omega arith) c } in
    let i = entries_got s rest r.marks n 0 (at + 2) r (drop 2 l) refl (omega arith) (bytes_drop 2 l b) (λ c lc. g.none s (omega arith) c) behind_it p.1 in
    let v = i.value in
    let size = count (stands_in s v) (2 ^ r.marks) in
    let list = listed (stands_in s v) (entry_of s v) (2 ^ r.marks) in
    record {
      entries = i;
      split =
          bytes_split 2 l w.0 b ∙ ap₂ (λ (y : ℕ) (t : List ℕ). bytes 2 y ++ t) (sym (zero-add n) ∙ i.many) i.list
          ∙ sym (append_assoc (bytes 2 size) list i.tail)
          ∙ ap (λ (y : ℕ). (bytes 2 (count (stands_in s v) (2 ^ y)) ++ listed (stands_in s v) (entry_of s v) (2 ^ y)) ++ i.tail) (sym i.only.marks);
    }

-- two records in which a section is the same have the same bytes there
pub section-same : (s : Section) (r q : Record) → r.marks ≡ q.marks → ((c : ℕ) → c < 2 ^ r.marks → stands_in s r c ≡ stands_in s q c)
    → ((c : ℕ) → c < 2 ^ r.marks → number_behind s r c ≡ number_behind s q c) → section s r ≡ section s q
section-same s r q e h k =
    ap₂ (λ (n : ℕ) (l : List ℕ). bytes 2 n ++ l) (sum_ext (2 ^ r.marks) _ _ (λ c l. ap (λ (b : Bool). only b 1) (h c l)))
    (listed_ext (stands_in s r) (stands_in s q) (entry_of s r) (entry_of s q) (2 ^ r.marks) h (λ c l. ap (λ (x : ℕ). c ∷ bytes (bytes_behind s) x) (k c l)))
    ∙ ap (λ (m : ℕ). bytes 2 (count (stands_in s q) (2 ^ m)) ++ listed (stands_in s q) (entry_of s q) (2 ^ m)) e

-- what is due; of every section that is not, the record has what was read before
record RestGot (most : ℕ) (rest : Rest) (r q : Record) (l : List ℕ) : Type 0 where
  marks : q.marks ≡ r.marks
  same : (u : Section) → Misses u rest → (c : ℕ) → (stands_in u q c ≡ stands_in u r c) × (number_behind u q c ≡ number_behind u r c)
  storable : Storable most q
  within : Within q
  profile : Carries rest q.profile
  bytes : l ≡ rest_of rest q

rest_got : {most k at : ℕ} {q : Record} (rest : Rest) (r : Record) (l : List ℕ) → Rising k rest → Bytes l → Reached most k r
    → Run most (rest_due rest r) at l (good q) → RestGot most rest r q l
rest_got {most} nothing r l up b g x =
    let e = ended x in
    subst (λ (u : Record). RestGot most nothing r u l) e.1
    (record { marks = refl; same = λ u miss c. (refl, refl); storable = g.storable; within = g.within; profile = g.plain; bytes = e.0 })
rest_got {most} {at = at} {q = q} profile r l up b g x =
    let got = profile_got r l b (subst (λ (u : Record). Run most (perhaps u) at l (good q)) (ap (λ (p : Profile). with_profile p r) g.plain) x) in
    let v = with_profile q.profile r in
    subst (λ (u : Record). RestGot most profile r u l) (sym got.is)
    (record {
      marks = refl;
      same = λ u miss c. stands_same u v r c refl refl;
      storable = record { marks = g.storable.marks; profile = got.ok; obeys = got.obeys; held_le_most = g.storable.held_le_most; apart = g.storable.apart };
      within = record { standing = g.within.standing; times = g.within.times };
      profile = tt;
      bytes = got.bytes;
    })
rest_got {most} {k = k} {q = q} (more s rest) r l up b g x =
    let at_it : Reached most (rank s) r = record { plain = g.plain; storable = g.storable; within = g.within; none = λ u h c. g.none u (omega arith) c } in
    let first = section_got s rest r l b at_it x in
    let i = first.entries in
    let v = i.value in
    let others = rest_got {k = suc (rank s)} rest v i.tail up.1 i.tail_bytes i.reached i.run in
    let kept = others.same s (misses s rest up.1 (omega arith)) in
    record {
      marks = others.marks ∙ i.only.marks;
      same = λ u miss c. ((others.same u miss.1 c).0 ∙ (i.only.same u miss.0 c).0, (others.same u miss.1 c).1 ∙ (i.only.same u miss.0 c).1);
      storable = others.storable;
      within = others.within;
      profile = others.profile;
      bytes =
          first.split
          ∙ ap₂ (λ (y z : List ℕ). y ++ z) (section-same s v q (sym others.marks) (λ c h. sym (kept c).0) (λ c h. sym (kept c).1)) others.bytes;
    }

-- all of it: t is the form of a record that a sheet can have, and that the layout tells
pub record IsForm (layout : Layout) (most : ℕ) (t : List ℕ) (r : Record) : Type 0 where
  pub storable : Storable most r
  pub within : Within r
  pub told : Tells layout r
  pub bytes : t ≡ form_by layout r

pub is-form : (layout : Layout) {most : ℕ} {r : Record} (t : List ℕ) → Bytes t → ReadingBy layout most t (good r) → IsForm layout most t r
unfolding judge form_by
is-form layout {most} {r} t b x =
    let w = took x in
    let m = number_in (take 1 t) in
    let ok = passed (marks_ok most m) (rest_due (sections layout) (opened m)) 1 w.1 in
    let all = rest_got (sections layout) (opened m) (drop 1 t) (rising layout) (bytes_drop 1 t b) (opened_reached m ok.0) ok.1 in
    record {
      storable = all.storable;
      within = all.within;
      told = record { absent = λ u miss c l. (all.same u miss c).0 ∙ opened_none m u c; profile = all.profile };
      bytes = byte_split t w.0 ∙ ap₂ (λ (y : ℕ) (l : List ℕ). y ∷ l) (sym all.marks) all.bytes;
    }

-- 01's form tells of no either combination
pub first_none : {most : ℕ} {t : List ℕ} {r : Record} → IsForm First most t r → (c : ℕ) → is_either (r.standing c) ≡ false
first_none {r = r} f c =
    below_or c (2 ^ r.marks) (λ l. f.told.absent Either (λ e. omega arith, (λ e. omega arith, tt)) c l) (λ l. ap is_either (f.within.standing c l))
