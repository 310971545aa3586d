-- The totals of the months that are over: entry by entry, each is its month's total (`closed_more`), which a later booking leaves (`closed_kept`).
use Prim.Native.Nat.{ℕ, zero, suc, ◌+◌, ◌-◌, ◌^◌, ◌≤◌, ◌<◌}
use mathlib.Core.Path.{◌≡◌, refl, sym, ap, ap₂, ◌∙◌}
use mathlib.Core.Bool.{true, cond, ◌&&◌}
use mathlib.Core.List.{List, ◌++◌}
use native.Mathlib.Numerals.{add-one}
use native.Mathlib.Omega.{arith}
use lib.Dec.{leb, ltb}
use lib.ListN.{length, get_or, set, replicate, length-set, length-append}
use lib.Seq.{get_or-set_same, get_or-set_other}
use borrow.Author.Tests.{lt-ltb, le-ltb, le-leb, lt-leb}
use Rattle.ground.proofs.Cases.{below_or, same_or}
use Rattle.tables.specs.Tables.{tab}
use Rattle.tables.proofs.Entries.{tab-length, tab-entry, tab_of, tab_ext}
use Rattle.ground.specs.Texts.{ascii}
use Rattle.print.specs.Texts.{clock}
use Rattle.print.specs.Pages.{Puts}
use Rattle.print.specs.declared.page.Page.{Page}
use Rattle.print.proofs.Pages.{puts_then, puts_text}
use Rattle.print.proofs.Digits.{time_room}
use Rattle.dates.specs.Texts.{digits}
use Rattle.ground.proofs.Figures.{figures-length}
use Rattle.dates.specs.declared.date.Date.{Date}
use Rattle.changes.specs.declared.Call.{Call}
use Rattle.bookings.specs.Bookings.{on, History, month_total, last_date, date_ok, with_booking}
use Rattle.bookings.specs.Months.{Kept}
use Rattle.bookings.proofs.Bookings.{month_before}
use Rattle.year.specs.Prints.{month_row, month_rows}
use Rattle.year.specs.States.{closed_before}
use Rattle.year.specs.Parts.{closed_with, month_in}

-- as long as it is January no month is over
pub closed_none : (totals : ℕ → ℕ) → closed_before 1 totals ≡ replicate 12 0
unfolding tab
closed_none totals = refl

-- an entry among those that are set, and one that is not

with_in : (from to t x : ℕ) (i : ℕ) → from ≤ suc i → suc i < to → cond (leb from (suc i) && ltb (suc i) to) t x ≡ t
with_in from to t x i h l = rw (le-leb from (suc i) h, lt-ltb (suc i) to l)

with_before : (from to t x : ℕ) (i : ℕ) → suc i < from → cond (leb from (suc i) && ltb (suc i) to) t x ≡ x
with_before from to t x i h = rw (lt-leb from (suc i) h)

with_behind : (from to t x : ℕ) (i : ℕ) → from ≤ suc i → to ≤ suc i → cond (leb from (suc i) && ltb (suc i) to) t x ≡ x
with_behind from to t x i h l = rw (le-leb from (suc i) h, le-ltb (suc i) to l)

-- set one after another

pub with_none : (totals : List ℕ) (from t : ℕ) → length totals ≡ 12 → totals ≡ closed_with totals from from t
with_none totals from t long =
    tab_of 12 _ totals long (λ i l. below_or (suc i) from (λ b. sym (with_before from from t _ i b)) (λ b. sym (with_behind from from t _ i b b)))

pub with_more : (totals : List ℕ) (from to t : ℕ) → 1 ≤ from → from ≤ to → to ≤ 12
    → set (closed_with totals from to t) (to - 1) t ≡ closed_with totals from (to + 1) t
with_more totals from to t h l k =
    tab_of 12 _ (set w (to - 1) t) (length-set w (to - 1) t ∙ tab-length 12 _)
    (λ i q. same_or i (to - 1)
    (λ (e : i ≡ to - 1). ap (λ (j : ℕ). get_or (set w (to - 1) t) j 0) e
    ∙ get_or-set_same w (to - 1) t 0 (omega (arith, tab-length 12 (λ j. cond (leb from (suc j) && ltb (suc j) to) t (get_or totals j 0))))
    ∙ sym (with_in from (to + 1) t (get_or totals i 0) i (omega arith) (omega arith)))
    (λ n. get_or-set_other w (to - 1) i t 0 n ∙ tab-entry 12 _ i q ∙ other i q n))
  where
    w : List ℕ
    w = closed_with totals from to t

    other : (i : ℕ) → i < 12 → (i ≡ to - 1 → ⊥)
        → cond (leb from (suc i) && ltb (suc i) to) t (get_or totals i 0) ≡ cond (leb from (suc i) && ltb (suc i) (to + 1)) t (get_or totals i 0)
    other i q n =
        below_or (suc i) from
        (λ b. with_before from to t _ i b ∙ sym (with_before from (to + 1) t _ i b))
        (λ b. below_or (suc i) to
        (λ c. with_in from to t _ i b c ∙ sym (with_in from (to + 1) t _ i b (omega arith)))
        (λ c. with_behind from to t _ i b c ∙ sym (with_behind from (to + 1) t _ i b (omega (arith, n)))))

-- the months from k to m have come to an end with the same total
pub closed_more : (totals : ℕ → ℕ) (k m t : ℕ) → k ≤ m → ((n : ℕ) → k ≤ n → totals n ≡ t) → closed_with (closed_before k totals) k m t ≡ closed_before m totals
closed_more totals k m t h e =
    tab_ext 12 _ _
    (λ i q. below_or (suc i) k
    (λ b. with_before k m t _ i b ∙ tab-entry 12 _ i q ∙ rw (lt-ltb (suc i) k b, lt-ltb (suc i) m (omega arith)))
    (λ b. below_or (suc i) m
    (λ c. with_in k m t _ i b c ∙ sym (e (suc i) b) ∙ rw (lt-ltb (suc i) m c))
    (λ c. with_behind k m t _ i b c ∙ tab-entry 12 _ i q ∙ rw (le-ltb (suc i) k b, le-ltb (suc i) m c))))

-- what is booked on a day leaves the months before it
pub closed_kept : {h : History} (kept : Kept h) (d : Date) (c : Call) → date_ok h.year (last_date h) d ≡ true
    → closed_before d.month (month_total h) ≡ closed_before d.month (month_total (with_booking h (on d c)))
closed_kept {h} kept d c ok =
    tab_ext 12 _ _
    (λ i q. below_or (suc i) d.month
    (λ b. rw (lt-ltb (suc i) d.month b) (sym (month_before kept d c ok (suc i) b)))
    (λ b. rw (le-ltb (suc i) d.month b)))

-- the rows of a year whose months are all over

rows_same : (f g : ℕ → ℕ) (n : ℕ) → ((i : ℕ) → i < n → f (suc i) ≡ g (suc i)) → month_rows f n ≡ month_rows g n
unfolding month_rows
rows_same f g zero e = refl
rows_same f g (suc n) e = ap₂ (λ (a : List ℕ) (x : ℕ). a ++ month_row (suc n) x) (rows_same f g n (λ i l. e i (omega arith))) (e n (omega arith))

pub rows_all : (totals : ℕ → ℕ) → month_rows (month_in (closed_before 13 totals)) 12 ≡ month_rows totals 12
rows_all totals =
    rows_same _ totals 12 (λ i l. let z : suc i - 1 ≡ i = omega arith in
    ap (λ (j : ℕ). get_or (closed_before 13 totals) j 0) z ∙ tab-entry 12 _ i l ∙ rw (lt-ltb (suc i) 13 (omega arith)))

-- their texts

pub row_length : (m s : ℕ) → s < 2 ^ 64 → length (month_row m s) ≤ 25
unfolding month_row
row_length m s l =
    omega (
      arith,
      figures-length 10 2 m,
      time_room s l,
      length-append (digits 2 m) (ascii " "),
      length-append (digits 2 m ++ ascii " ") (clock s),
      length-append (digits 2 m ++ ascii " " ++ clock s) (ascii "\n"),
    )

pub rows_more : (f : ℕ → ℕ) (n : ℕ) → month_rows f (n + 1) ≡ month_rows f n ++ month_row (n + 1) (f (n + 1))
unfolding month_rows
rows_more f n = rw (add-one n)

-- one row more on a page
pub row_put : (f : ℕ → ℕ) (n : ℕ) {p q s : Page} {m x : ℕ} → m ≡ n + 1 → x ≡ f (n + 1) → Puts p q (month_rows f n) → Puts q s (month_row m x) → Puts p s (month_rows f (n + 1))
row_put f n e d p q = puts_text (sym (rows_more f n)) (puts_then p (puts_text (ap₂ month_row e d) q))
