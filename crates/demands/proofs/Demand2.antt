-- What the contract of `list` says of the list it gives, and what follows of every first shortest list.
use Prim.Native.Nat.{ℕ, ◌<◌, ◌≤◌}
use mathlib.Core.Path.{◌≡◌, refl, sym, ◌∙◌, ap, subst, transport, fun_ext}
use mathlib.Core.Bool.{Bool, false, not, false≢true}
use mathlib.Core.List.{List}
use native.Mathlib.Omega.{arith}
use lib.Dec.{eqb}
use lib.ListN.{length}
use Rattle.ground.specs.Decides.{Decides}
use Rattle.boxes.specs.Sums.{sum_over}
use Rattle.tables.specs.Tables.{entry}
use Rattle.ground.proofs.Cases.{if, clash}
use Rattle.lists.specs.Lists.{covered, Fits, Small, FirstShortest, most_lines}
use Rattle.lists.proofs.Class.{rising_same}
use Rattle.lists.proofs.Evens.{reached}
use Rattle.lists.proofs.Exist.{exists, at_most}
use Rattle.lists.proofs.First.{unique}
use Rattle.lists.proofs.Pottosin.{fits_independent, first_smallest}
use Rattle.classes.specs.Standings.{is_in, is_out, is_either}
use Rattle.classes.specs.declared.Standing.{Standing}
use Rattle.classes.specs.declared.Standing.TheVariants.{In, Out, Either}
use Rattle.sheet.specs.Limits.{most_marks}
use Rattle.sheet.specs.Record.{Record, in_class, not_out, NoneEither}
use Rattle.sheet.proofs.Ready.{class_of_ready}
use Rattle.sheet.proofs.Told.{in-not-out}
use Rattle.sheet.specs.Sound.{ClassReady, record_of}
use Rattle.sheet.specs.declared.Sheet.{Sheet}
use Rattle.sheet.specs.Told.{Value}
use Rattle.listing.specs.Listing.{Listed}
use Rattle.totals.specs.Totals.{total_of, Totalled}
use Rattle.listing.proofs.Laid.{class_small, list_laid}
use Rattle.totals.proofs.Lines.{kept_total}
use Rattle.stored.specs.Fields.{Bytes}
use Rattle.stored.specs.declared.Layout.TheVariants.{Today}
use Rattle.lent.specs.Entries.{Holds, Lends}
use Rattle.lent.proofs.Replies.{holds_ready}
use Rattle.lent.proofs.Settled.{one_sheet, not_both, stored_alone}
use Rattle.lent.specs.declared.Reply.{Reply}
use Rattle.demands.specs.Demand2.{Lines, Printed, PrintedIn, Demand2}

-- where no combination is either, what is not out is in
plain_room : (r : Record) → NoneEither r → not_out r ≡ in_class r
plain_room r plain = fun_ext (λ c. told (r.standing c) (plain c))
  where
    told : (s : Standing) → is_either s ≡ false → not (is_out s) ≡ is_in s
    told In e = refl
    told Out e = refl
    told Either e = clash refl e

-- so the laws of a class hold of the list
class_list : (r : Record) (l : List ℕ) → NoneEither r → FirstShortest r.marks (in_class r) (not_out r) l → FirstShortest r.marks (in_class r) (in_class r) l
class_list r l plain f = subst (λ (p : ℕ → Bool). FirstShortest r.marks (in_class r) p l) (plain_room r plain) f

covers_class : {m : ℕ} {class : ℕ → Bool} {l : List ℕ} → Fits m class class l → (c : ℕ) → covered m l c ≡ class c
covers_class {m} {class} {l} f c =
    if (class c)
    (λ e. f.covers c e ∙ sym e)
    (λ e. if (covered m l c) (λ w. clash (f.inside c w) e) (λ w. w ∙ sym e))

some_fits : (r : Record) → Small r.marks (in_class r) → (l : List ℕ) × Fits r.marks (in_class r) (not_out r) l
some_fits r small = let x = exists r.marks (in_class r) (not_out r) small (in-not-out r) in (x.0, x.1)

lines : (r : Record) (l : List ℕ) → Small r.marks (in_class r) → FirstShortest r.marks (in_class r) (not_out r) l → Lines r l
lines r l small f =
    let m = r.marks in
    record {
      right = f;
      one = λ k g. unique g f;
      exactly = λ plain. covers_class (class_list r l plain f).fits;
      rising = λ plain. transport (rising_same m (in_class r) l (fits_independent m (in_class r) (class_list r l plain f).fits)) f.rising;
      form = λ plain. first_smallest m (in_class r) l small (class_list r l plain f);
    }

module _ (s : Sheet) where
  pub class_lines : {l : List ℕ} → FirstShortest s.marks (in_class (record_of s)) (not_out (record_of s)) l → Lines (record_of s) l
  class_lines {l} f = lines (record_of s) l (class_small s) f

  given : {area later : List ℕ} {v : Value} → Listed most_marks s area v later → ClassReady most_marks s → most_lines s.marks ≤ length area → v.number ≡ 0
  given w r l = (list_laid w r l).0

  five : {area later : List ℕ} {v : Value} → Listed most_marks s area v later → ClassReady most_marks s → Decides (eqb v.number 5) (length area < most_lines s.marks)
  five (Listed.spoiled n) r = absurd (n r)
  five (Listed.short w l) r = record { yes = λ e. l; sure = λ p. refl }
  five (Listed.given w l x) r = record { yes = λ e. absurd (false≢true e); sure = λ p. absurd (omega arith) }

  total : {v : Value} → Totalled most_marks s v → v.number ≡ 0 → v.value ≡ total_of (record_of s)
  total (Totalled.spoiled n) e = absurd (omega arith)
  total (Totalled.told w) e = refl

  seconds : {l : List ℕ} {t : Value} → FirstShortest s.marks (in_class (record_of s)) (not_out (record_of s)) l → Totalled most_marks s t → t.number ≡ 0
      → sum_over l (entry s.held) ≡ t.value
  seconds f (Totalled.spoiled n) e = absurd (omega arith)
  seconds {l} f (Totalled.told w) e = kept_total s l w.class w.times f.fits

  printed : {area later : List ℕ} {v : Value} → Listed most_marks s area v later → v.number ≡ 0 → Printed s area v later
  printed (Listed.spoiled n) e = absurd (omega arith)
  printed (Listed.short w h) e = absurd (omega arith)
  printed (Listed.given w h l) e = record {
    lines = l.list;
    of_class = class_lines l.right;
    size = l.size;
    stands = l.stands;
    seconds = λ t. seconds l.right t;
  }

entry_printed : {t area later : List ℕ} {r : Reply} → Lends (Listed most_marks) t area r later → r.answer ≡ 0 → PrintedIn t area r later
entry_printed (Lends.unread u) z = absurd (u.bad (sym (ap (λ (x : Reply). x.answer) u.reply) ∙ z))
entry_printed (Lends.lent {s = s} h w) z = record { sheet = s; held_in = h; printed = printed s w z }

entry_five : {t area later : List ℕ} {r : Reply} {s : Sheet} → Bytes t → Holds t s → Lends (Listed most_marks) t area r later
    → Decides (eqb r.answer 5) (length area < most_lines s.marks)
entry_five {t} b h (Lends.unread u) = absurd (not_both (stored_alone t) u h)
entry_five {t} {area} {s = s} b h (Lends.lent {v = v} q w) =
    subst (λ (x : Sheet). Decides (eqb v.number 5) (length area < most_lines x.marks)) (one_sheet (stored_alone t) q h) (five _ w (subst (ClassReady most_marks) q.sheet (class_of_ready (holds_ready Today t b q.reads))))

pub demand_2 : Demand2
demand_2 = record {
  exists = some_fits;
  of_sheet = λ s. some_fits (record_of s) (class_small s);
  few = λ r small f. at_most r.marks small f;
  reached = reached;
  given = λ {s} w. given s w;
  five = λ {s} w. five s w;
  printed = λ {s} w. printed s w;
  entry = entry_printed;
  entry_five = entry_five;
  total = λ {s} w. total s w;
}
