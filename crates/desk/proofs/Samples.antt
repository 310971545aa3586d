-- 01's sample, worked out from the definitions.
use Prim.Native.Nat.{ℕ, ◌<◌}
use mathlib.Core.Path.{◌≡◌, refl, sym, subst, fun_ext}
use mathlib.Core.Bool.{Bool, true, false, not, cond, ◌||◌}
use mathlib.Core.List.{List, [], ◌∷◌, ◌++◌}
use native.Mathlib.Omega.{arith}
use lib.Dec.{eqb}
use Rattle.std.specs.Prelude.{Some, None}
use Rattle.ground.specs.Figures.{figures}
use Rattle.boxes.specs.Boxes.{sum_in, contains, agrees, through}
use Rattle.boxes.specs.Sums.{sum}
use Rattle.lists.specs.Lists.{among, first_from, FirstShortest}
use Rattle.lists.proofs.Known.{below, alike, gives, first_is, known_list}
use Rattle.lists.proofs.Model.{laying, trying, seeking, fewest}
use Rattle.ground.specs.Texts.{ascii}
use Rattle.times.specs.Texts.{Readable}
use Rattle.print.specs.Texts.{decimal, decimal_in, clock, pattern}
use Rattle.clock.proofs.ReadsBack.{clock_readable}
use Rattle.classes.specs.Standings.{is_in, is_out}
use Rattle.classes.specs.declared.Standing.{Standing}
use Rattle.classes.specs.declared.Standing.TheVariants.{In, Out}
use Rattle.sheet.specs.Limits.{marks_ok, amount_ok}
use Rattle.changes.specs.declared.Call.TheVariants.{Change, Receive, Withdraw}
use Rattle.machine.specs.Rows.{whole, rows_from, judged}
use Rattle.machine.specs.Machine.{Onward}
use Rattle.times.specs.declared.Form.TheVariants.{Minutes}
use Rattle.lines.specs.declared.Order.TheVariants.{Make}
use Rattle.lines.specs.Words.{written, enters, receives, withdraws, ends, said, marks, RowAsks, RowOpens}
use Rattle.desk.specs.Sample.{sample_input, sample_output}
use Rattle.desk.specs.Prints.{heads, box_line, box_lines, last_line, page, opens, made, ended, Stop, Prints}

-- what stands where combinations were entered one after another
entering : ℕ → Standing
entering x = cond (eqb x 3) In (cond (eqb x 2) In (cond (eqb x 1) In Out))

entered : (test : Standing → Bool) → test In ≡ true → test Out ≡ false → (a b c : Bool) → (a || (b || (c || false))) ≡ test (cond c In (cond b In (cond a In Out)))
entered test i o true true true = sym i
entered test i o true true false = sym i
entered test i o true false true = sym i
entered test i o true false false = sym i
entered test i o false true true = sym i
entered test i o false true false = sym i
entered test i o false false true = sym i
entered test i o false false false = sym o

list : FirstShortest 2 (λ x. is_in (entering x)) (λ x. not (is_out (entering x))) (1 ∷ 5 ∷ [])
unfolding entering among first_is gives alike below agrees contains through first_from laying trying seeking fewest
list =
    let class = among (1 ∷ 2 ∷ 3 ∷ []) in
    subst (λ (p : ℕ → Bool). FirstShortest 2 p (λ x. not (is_out (entering x))) (1 ∷ 5 ∷ [])) (fun_ext {f = class} (λ x. entered is_in refl refl (eqb x 1) (eqb x 2) (eqb x 3)))
    (subst (λ (p : ℕ → Bool). FirstShortest 2 class p (1 ∷ 5 ∷ [])) (fun_ext {f = class} (λ x. entered (λ s. not (is_out s)) refl refl (eqb x 1) (eqb x 2) (eqb x 3)))
    (known_list 2 (1 ∷ 2 ∷ 3 ∷ []) (1 ∷ 5 ∷ []) refl))

time_605 : Readable (ascii "10:05") 605 Minutes
unfolding clock decimal decimal_in
time_605 = clock_readable 605 (omega arith)

time_150 : Readable (ascii "2:30") 150 Minutes
unfolding clock decimal decimal_in
time_150 = clock_readable 150 (omega arith)

time_5 : Readable (ascii "0:05") 5 Minutes
unfolding clock decimal decimal_in
time_5 = clock_readable 5 (omega arith)

time_240 : Readable (ascii "4:00") 240 Minutes
unfolding clock decimal decimal_in
time_240 = clock_readable 240 (omega arith)

enter : (c : ℕ) (line : List ℕ) → c < 4 → line ≡ ascii "in " ++ written 2 c → RowAsks 2 (whole line) (Make (Change In c) None)
enter c line h e = RowAsks.read (said (enters (record { small = h; text = e })))

receive : (c d : ℕ) (line time : List ℕ) → c < 4 → Readable time d Minutes → line ≡ ascii "recv " ++ written 2 c ++ ascii " " ++ time → RowAsks 2 (whole line) (Make (Receive c d) (Some Minutes))
receive c d line time h t e = RowAsks.read (said (receives (record { small = h; time = time; readable = t; text = e })))

withdraw : (c d : ℕ) (line time : List ℕ) → c < 4 → Readable time d Minutes → line ≡ ascii "gone " ++ written 2 c ++ ascii " " ++ time → RowAsks 2 (whole line) (Make (Withdraw c d) (Some Minutes))
withdraw c d line time h t e = RowAsks.read (said (withdraws (record { small = h; time = time; readable = t; text = e })))

pub sample : Prints sample_input sample_output
unfolding rows_from judged figures marks_ok amount_ok sum entering page heads box_line box_lines last_line decimal decimal_in clock pattern sum_in contains agrees
sample =
    Onward.line {now = []} (opens {f = Some 2} (RowOpens.read (marks {n = 2} (omega arith, refl))) refl)
    (Onward.line {now = []} (made {c = Change In 1} (enter 1 (ascii "in 01") (omega arith) refl))
    (Onward.line {now = []} (made {c = Change In 2} (enter 2 (ascii "in 10") (omega arith) refl))
    (Onward.line {now = []} (made {c = Change In 3} (enter 3 (ascii "in 11") (omega arith) refl))
    (Onward.line {now = []} (made {c = Receive 3 605} (receive 3 605 (ascii "recv 11 10:05") (ascii "10:05") (omega arith) time_605 refl))
    (Onward.line {now = []} (made {c = Receive 1 150} (receive 1 150 (ascii "recv 01 2:30") (ascii "2:30") (omega arith) time_150 refl))
    (Onward.line {now = []} (made {c = Withdraw 3 5} (withdraw 3 5 (ascii "gone 11 0:05") (ascii "0:05") (omega arith) time_5 refl))
    (Onward.line {now = []} (made {c = Receive 0 240} (receive 0 240 (ascii "recv 00 4:00") (ascii "4:00") (omega arith) time_240 refl))
    (Onward.line {now = sample_output} (ended (RowAsks.read (said (ends refl))) (record { list = 1 ∷ 5 ∷ []; first = list; is = refl })) (Onward.stopped Stop.silent)))))))))
