-- Soundness is kept by every call, whatever its answer. The tables are long enough for the marks that a call takes.
use Prim.Native.Nat.{ℕ, ◌+◌, ◌^◌, ◌<◌, ◌≤◌}
use mathlib.Core.Path.{◌≡◌, sym, ◌∙◌, ap, ap₂, subst}
use mathlib.Core.Bool.{Bool, true, false, cond, ◌&&◌}
use native.Mathlib.Omega.{arith}
use native.Mathlib.Nat.{one-le-pow}
use lib.Dec.{leb, ltb}
use lib.ListN.{length}
use borrow.Author.Tests.{leb-true, ltb-false}
use Rattle.ground.proofs.Cases.{same_or, clash}
use Rattle.boxes.specs.Boxes.{all_free}
use Rattle.boxes.proofs.Boxes.{contains-all}
use Rattle.tables.specs.declared.Shift.{Shift}
use Rattle.tables.specs.Tables.{entry, own, Sums, Shifts}
use Rattle.tables.specs.Parts.{ShiftsAt}
use Rattle.tables.proofs.Shifts.{own_shifts, shifted_sums}
use Rattle.profiles.specs.Profiles.{breaks}
use Rattle.classes.specs.declared.Standing.{Standing}
use Rattle.classes.specs.declared.Standing.TheVariants.{Either}
use Rattle.classes.specs.Standings.{is_either, outs, eithers, tells}
use Rattle.classes.specs.Sound.{CountsSound, ClassSound}
use Rattle.sheet.specs.declared.Sheet.{Sheet}
use Rattle.sheet.specs.Limits.{marks_ok, most_marks, most_held, entries}
use Rattle.sheet.specs.Record.{Table, outside_counts, either_counts, held_seconds, kept}
use Rattle.sheet.specs.Sound.{own_in, TimesSound, Ready}
use Rattle.sheet.specs.Entries.{Long}
use Rattle.sheet.proofs.Kept.{adds_one, tells_either}
use Rattle.sheet.proofs.Limits.{boxes_fit}
use Rattle.changes.specs.declared.Call.{Call}
use Rattle.changes.specs.declared.Call.TheVariants.{Change, Receive, Withdraw}
use Rattle.changes.specs.declared.Move.{Move}
use Rattle.changes.specs.Calls.{between, amount_shift, amount_move, move_of, shift_in, moved_sheet, number_on, did_of}
use Rattle.changes.specs.Parts.{Accepted}
use Rattle.changes.proofs.Between.{by_between}
use Rattle.changes.proofs.Alters.{by_answer, table_shifted}
use Rattle.changes.proofs.Tests.{AmountPassed, changes, amounts, accepts, amount_fits}

-- a shift from x to y takes x to y alone
shifts_to : (x y z : ℕ) → Shifts (between x y) x z → z ≡ y
shifts_to x y z = by_between (λ (s : Shift). Shifts s x z → z ≡ y) x y (λ l h. omega arith) (λ l h. omega arith) (λ e h. h ∙ e)

-- a receipt or a withdrawal leaves no more than the limit in the all-free box
most_after : (more : Bool) (d x y : ℕ) → cond more (leb (x + d) most_held) (leb d x) ≡ true → x ≤ most_held → Shifts (amount_shift more d) x y → y ≤ most_held
most_after true d x y e l h = omega (arith, leb-true (x + d) most_held e)
most_after false d x y e l h = omega arith

-- nothing less is nothing
none_less : (d x y : ℕ) → Shifts (amount_shift false d) x y → x ≡ 0 → y ≡ 0
none_less d x y h e = omega arith

module _ (s : Sheet) (long : Long entries s) where
  -- each table has an entry for each box
  room : marks_ok most_marks s.marks ≡ true → (t : Table) → 3 ^ s.marks ≤ length (kept t s)
  room marks t = omega (arith, boxes_fit s.marks marks, long t)

  -- an accepted move: sums stay sums, and own numbers are shifted
  module _ (v : Move) (a : Accepted s v) where
    sums_moved : (t : Table) → Sums s.marks (entry (kept t s)) → Sums s.marks (entry (kept t (moved_sheet v s)))
    sums_moved t = shifted_sums (table_shifted s v a t) (room a.marks t) a.low

    own_moved : (t : Table) → ShiftsAt s.marks v.at (shift_in t v) (own s.marks (kept t s)) (own s.marks (kept t (moved_sheet v s)))
    own_moved t = own_shifts (table_shifted s v a t) (room a.marks t) a.low

    all_moved : (t : Table) → Shifts (shift_in t v) (entry (kept t s) (all_free s.marks)) (entry (kept t (moved_sheet v s)) (all_free s.marks))
    all_moved t =
        (table_shifted s v a t).touched (all_free s.marks) (omega (arith, room a.marks t, one-le-pow s.marks 3 (omega arith)))
        (contains-all s.marks v.at a.low)

    -- what holds of the own numbers of the move's combination afterwards, and of each combination before, holds of each afterwards
    each_own : (P : ℕ → ℕ → ℕ → ℕ → Type 0)
        → (let u = moved_sheet v s in P v.at (own_in outside_counts u v.at) (own_in either_counts u v.at) (own_in held_seconds u v.at))
        → ((c : ℕ) → c < 2 ^ s.marks → P c (own_in outside_counts s c) (own_in either_counts s c) (own_in held_seconds s c))
        → (c : ℕ) → c < 2 ^ s.marks → (let u = moved_sheet v s in P c (own_in outside_counts u c) (own_in either_counts u c) (own_in held_seconds u c))
    each_own P here before c l =
        let u = moved_sheet v s in
        same_or c v.at
        (λ e. subst (λ (x : ℕ). P x (own_in outside_counts u x) (own_in either_counts u x) (own_in held_seconds u x)) (sym e) here)
        (λ n. subst (λ (x : ℕ). P c x (own_in either_counts u c) (own_in held_seconds u c)) (sym ((own_moved outside_counts).others c l n))
        (subst (λ (x : ℕ). P c (own_in outside_counts s c) x (own_in held_seconds u c)) (sym ((own_moved either_counts).others c l n))
        (subst (P c (own_in outside_counts s c) (own_in either_counts s c)) (sym ((own_moved held_seconds).others c l n)) (before c l))))

  -- a class change leaves the own counts of its new standing
  module _ (to : Standing) (c : ℕ) (z : number_on most_marks s (Change to c) ≡ 0) where
    abbrev changed : Sheet
    changed = moved_sheet (move_of s (Change to c)) s

    outs_now : own_in outside_counts changed c ≡ outs to
    outs_now = shifts_to (own_in outside_counts s c) (outs to) _ (own_moved (move_of s (Change to c)) (accepts s (Change to c) z) outside_counts).here

    eithers_now : own_in either_counts changed c ≡ eithers to
    eithers_now = shifts_to (own_in either_counts s c) (eithers to) _ (own_moved (move_of s (Change to c)) (accepts s (Change to c) z) either_counts).here

  -- what a receipt or a withdrawal leaves of the own counts: all
  module _ (more : Bool) (c d : ℕ) (a : Accepted s (amount_move more c d)) where
    abbrev paid : Sheet
    paid = moved_sheet (amount_move more c d) s

    outs_still : own_in outside_counts paid c ≡ own_in outside_counts s c
    outs_still = (own_moved (amount_move more c d) a outside_counts).here

    eithers_still : own_in either_counts paid c ≡ own_in either_counts s c
    eithers_still = (own_moved (amount_move more c d) a either_counts).here

  module _ (sound : CountsSound s.marks s.outside s.either) where
    tells_here : (k : Call) → number_on most_marks s k ≡ 0
        → let u = moved_sheet (move_of s k) s in own_in outside_counts u (move_of s k).at + own_in either_counts u (move_of s k).at ≤ 1
    tells_here (Change to c) z = omega (arith, outs_now to c z, eithers_now to c z, adds_one to)
    tells_here (Receive c d) z =
        let a = accepts s (Receive c d) z in omega (arith, outs_still true c d a, eithers_still true c d a, sound.tells c a.low)
    tells_here (Withdraw c d) z =
        let a = accepts s (Withdraw c d) z in omega (arith, outs_still false c d a, eithers_still false c d a, sound.tells c a.low)

    counts_after : (k : Call) → number_on most_marks s k ≡ 0 → let u = moved_sheet (move_of s k) s in CountsSound s.marks u.outside u.either
    counts_after k z =
        let v = move_of s k in
        let a = accepts s k z in
        record {
          outsides = sums_moved v a outside_counts sound.outsides;
          eithers = sums_moved v a either_counts sound.eithers;
          tells = each_own v a (λ (c x y h : ℕ). x + y ≤ 1) (tells_here k z) sound.tells;
        }

  module _ (sound : ClassSound s.marks s.profile s.outside s.either) where
    -- a class change is of no combination that breaks the profile, and nothing else changes how one stands
    obeys_here : (k : Call) → number_on most_marks s k ≡ 0
        → let u = moved_sheet (move_of s k) s in
        let c = (move_of s k).at in
        breaks s.marks s.profile c ≡ true → tells Either (own_in outside_counts u c) (own_in either_counts u c) ≡ true
    obeys_here (Change to c) z b = clash (rw (b, sound.profile)) (changes most_marks to s c z).free
    obeys_here (Receive c d) z b =
        let a = accepts s (Receive c d) z in
        ap₂ (tells Either) (outs_still true c d a) (eithers_still true c d a) ∙ sound.obeys c a.low b
    obeys_here (Withdraw c d) z b =
        let a = accepts s (Withdraw c d) z in
        ap₂ (tells Either) (outs_still false c d a) (eithers_still false c d a) ∙ sound.obeys c a.low b

    class_after : (k : Call) → number_on most_marks s k ≡ 0 → let u = moved_sheet (move_of s k) s in ClassSound s.marks s.profile u.outside u.either
    class_after k z = record {
      counts = counts_after sound.counts k z;
      profile = sound.profile;
      obeys = each_own (move_of s k) (accepts s k z) (λ (c x y h : ℕ). breaks s.marks s.profile c ≡ true → tells Either x y ≡ true) (obeys_here k z) sound.obeys;
    }

  module _ (sound : TimesSound s.marks s.outside s.either s.held) where
    most_paid : (more : Bool) (c d : ℕ) → AmountPassed most_marks more s c d → Accepted s (amount_move more c d)
        → entry (moved_sheet (amount_move more c d) s).held (all_free s.marks) ≤ most_held
    most_paid more c d w a =
        most_after more d _ _ (amount_fits s.marks c more d s.held w.fits (all_free s.marks) (contains-all s.marks c w.low)) sound.most
        (all_moved (amount_move more c d) a held_seconds)

    most_now : (k : Call) → number_on most_marks s k ≡ 0 → entry (moved_sheet (move_of s k) s).held (all_free s.marks) ≤ most_held
    most_now (Change to c) z = omega (arith, all_moved (move_of s (Change to c)) (accepts s (Change to c) z) held_seconds, sound.most)
    most_now (Receive c d) z = most_paid true c d (amounts most_marks true s c d z) (accepts s (Receive c d) z)
    most_now (Withdraw c d) z = most_paid false c d (amounts most_marks false s c d z) (accepts s (Withdraw c d) z)

    apart_here : (k : Call) → number_on most_marks s k ≡ 0
        → let u = moved_sheet (move_of s k) s in
        let c = (move_of s k).at in
        tells Either (own_in outside_counts u c) (own_in either_counts u c) ≡ true → own_in held_seconds u c ≡ 0
    apart_here (Change to c) z t =
        let w = changes most_marks to s c z in
        let either : is_either to ≡ true = sym (tells_either to) ∙ sym (ap₂ (tells Either) (outs_now to c z) (eithers_now to c z)) ∙ t in
        let none : ltb 0 (own_in held_seconds s c) ≡ false = sym (ap (λ (e : Bool). e && ltb 0 (own_in held_seconds s c)) either) ∙ w.apart in
        omega (arith, (own_moved (move_of s (Change to c)) (accepts s (Change to c) z) held_seconds).here, ltb-false 0 (own_in held_seconds s c) none)
    apart_here (Receive c d) z t =
        let a = accepts s (Receive c d) z in
        clash (sym (ap₂ (tells Either) (outs_still true c d a) (eithers_still true c d a)) ∙ t) (amounts most_marks true s c d z).standing
    apart_here (Withdraw c d) z t =
        let a = accepts s (Withdraw c d) z in
        none_less d _ _ (own_moved (amount_move false c d) a held_seconds).here
        (sound.apart c a.low (sym (ap₂ (tells Either) (outs_still false c d a) (eithers_still false c d a)) ∙ t))

    times_after : (k : Call) → number_on most_marks s k ≡ 0 → let u = moved_sheet (move_of s k) s in TimesSound s.marks u.outside u.either u.held
    times_after k z =
        let v = move_of s k in
        let a = accepts s k z in
        record {
          sums = sums_moved v a held_seconds sound.sums;
          most = most_now k z;
          apart = each_own v a (λ (c x y h : ℕ). tells Either x y ≡ true → h ≡ 0) (apart_here k z) sound.apart;
        }

  -- SOUNDNESS IS KEPT, of each table
  pub class_kept : (k : Call) → ClassSound s.marks s.profile s.outside s.either
      → let u = (did_of most_marks s k).sheet in ClassSound u.marks u.profile u.outside u.either
  class_kept k sound =
      by_answer (λ (u : Sheet). ClassSound u.marks u.profile u.outside u.either) _ s (moved_sheet (move_of s k) s) sound (λ z. class_after sound k z)

  pub times_kept : (k : Call) → TimesSound s.marks s.outside s.either s.held
      → let u = (did_of most_marks s k).sheet in TimesSound u.marks u.outside u.either u.held
  times_kept k sound =
      by_answer (λ (u : Sheet). TimesSound u.marks u.outside u.either u.held) _ s (moved_sheet (move_of s k) s) sound (λ z. times_after sound k z)

  pub ready_kept : (k : Call) → Ready most_marks s → Ready most_marks (did_of most_marks s k).sheet
  ready_kept k ready = by_answer (Ready most_marks) _ s (moved_sheet (move_of s k) s) ready
      (λ z. record { marks = ready.marks; class = class_after ready.class k z; times = times_after ready.times k z })
