-- THE ANSWERS THAT A DESK CAN SEE: a line prints nothing, or the result, or a refusal by 3, 4, 8, 9 or 10, and line 1 by 1 or 10. A pattern of m
-- characters is always a combination, so 2 does not come; and no combination is ever either and no sheet under a profile, so neither does 12.
use Prim.Native.Nat.{ℕ, ◌+◌, ◌^◌}
use mathlib.Core.Path.{◌≡◌, refl, sym, ap, subst}
use mathlib.Core.Bool.{true, false, ◌||◌}
use mathlib.Core.List.{List}
use lib.Dec.{eqb, leb}
use borrow.Author.Tests.{lt-leb}
use Rattle.std.specs.Prelude.{Option, Some, None as Unread}
use Rattle.boxes.specs.Sums.{sum}
use Rattle.ground.proofs.Cases.{if}
use Rattle.profiles.specs.Profiles.{settles}
use Rattle.profiles.specs.declared.Profile.{Profile}
use Rattle.profiles.specs.declared.Profile.TheVariants.{None}
use Rattle.classes.specs.Standings.{is_in, is_out}
use Rattle.sheet.specs.Limits.{most_marks, most_held, marks_ok, amount_ok}
use Rattle.sheet.specs.Record.{Record, NoneEither, opened}
use Rattle.changes.specs.declared.Call.{Call}
use Rattle.histories.specs.Histories.{number_of, accepted, after}
use Rattle.machine.specs.Rows.{Row}
use Rattle.machine.specs.Heard.{Hears, nothing, page, refused}
use Rattle.machine.proofs.Heard.{spoken_heard}
use Rattle.times.specs.declared.Form.{Form}
use Rattle.lines.specs.declared.Order.TheVariants.{Make}
use Rattle.lines.specs.Words.{Says, enters, leaves, receives, withdraws, said, RowAsks}
use Rattle.desk.specs.Heard.{IsResult, in_line1, in_later_line}
use Rattle.desk.specs.Prints.{first_number, first_record, State, first, going, Step, opens, shut, made, unread, ended}
use Rattle.desk.specs.States.{record_in}
use Rattle.desk.proofs.Outputs.{first_record_opened}

-- No word of the desk makes a combination either, or opens under a profile: its sheet has neither.
pub record Plain (r : Record) : Type 0 where
  pub none : NoneEither r
  pub profile : r.profile ≡ None

says_plain : (r : Record) {line : List ℕ} {c : Call} {f : Option Form} → Plain r → Says r.marks line (Make c f) → Plain (accepted r c)
says_plain r plain (enters {c} n) = record { none = λ x. if (eqb x c) (λ e. rw e) (λ e. rw e (plain.none x)); profile = plain.profile }
says_plain r plain (leaves {c} n) = record { none = λ x. if (eqb x c) (λ e. rw e) (λ e. rw e (plain.none x)); profile = plain.profile }
says_plain r plain (receives n) = record { none = plain.none; profile = plain.profile }
says_plain r plain (withdraws n) = record { none = plain.none; profile = plain.profile }

pub after_plain : (r : Record) {line : List ℕ} {c : Call} {f : Option Form} → Plain r → Says r.marks line (Make c f) → Plain (after r c)
after_plain r {c = c} plain s = if (eqb (number_of r c) 0) (λ e. rw e (says_plain r plain s)) (λ e. rw e plain)

pub opened_plain : (m : ℕ) → Plain (opened m)
opened_plain m = record { none = λ c. refl; profile = refl }

first_plain : (f : Option ℕ) → Plain (first_record f)
first_plain f = subst Plain (sym (first_record_opened f)) (opened_plain _)

pub plain_step : {k : ℕ} {s t : State} {row : Row} {now : List ℕ} → Step k s row t now → Plain (record_in s) → Plain (record_in t)
plain_step (opens {f = f} w e) plain = first_plain f
plain_step (shut {f = f} w n) plain = first_plain f
plain_step (made {r} (RowAsks.read (said s))) plain = after_plain r plain s
plain_step (unread w) plain = plain
plain_step (ended w t) plain = plain
plain_step Step.silent plain = plain

-- the number of a call that a line says

unsettled : (r : Record) → Plain r → (c : ℕ) → settles r.marks r.profile c ≡ false
unsettled r plain c = ap (λ (p : Profile). settles r.marks p c) plain.profile

pub call_seen : (r : Record) {line : List ℕ} {c : Call} {f : Option Form} → Plain r → Says r.marks line (Make c f)
    → (eqb (number_of r c) 0 || in_later_line (number_of r c)) ≡ true
call_seen r plain (enters {c} n) = rw (lt-leb (2 ^ r.marks) c n.small, unsettled r plain c) (if (is_in (r.standing c)) (λ e. rw e) (λ e. rw e))
call_seen r plain (leaves {c} n) = rw (lt-leb (2 ^ r.marks) c n.small, unsettled r plain c) (if (is_out (r.standing c)) (λ e. rw e) (λ e. rw e))
call_seen r plain (receives {c} {d} n) =
    rw (lt-leb (2 ^ r.marks) c n.small, plain.none c)
    (if (amount_ok d)
    (λ e. if (leb (sum (2 ^ r.marks) r.times + d) most_held) (λ f. rw (e, f)) (λ f. rw (e, f)))
    (λ e. rw e))
call_seen r plain (withdraws {c} {d} n) =
    rw (lt-leb (2 ^ r.marks) c n.small)
    (if (amount_ok d) (λ e. if (leb d (r.times c)) (λ f. rw (e, f)) (λ f. rw (e, f))) (λ e. rw e))

pub line_seen : {k : ℕ} {r : Record} {row : Row} {t : State} {text : List ℕ} → Plain r → Step k (going r) row t text → Hears IsResult k in_later_line text
line_seen {k} {r} plain (made {c = c} (RowAsks.read (said s))) = spoken_heard k (number_of r c) in_later_line (call_seen r plain s)
line_seen plain (unread w) = refused 10 refl
line_seen plain (ended {r = r} w t) = page (r, t)

-- the number of a refused `marks`
pub shut_seen : (f : Option ℕ) → (first_number f ≡ 0 → ⊥) → in_line1 (first_number f) ≡ true
shut_seen (Some m) n = if (marks_ok most_marks m) (λ e. absurd (n (rw e))) (λ e. rw e)
shut_seen Unread n = refl

pub first_seen : {k : ℕ} {row : Row} {t : State} {text : List ℕ} → Step k first row t text → Hears IsResult k in_line1 text
first_seen (opens w e) = nothing
first_seen (shut {f = f} w n) = refused (first_number f) (shut_seen f n)
