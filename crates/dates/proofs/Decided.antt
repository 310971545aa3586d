-- Every part is a number or is none, and every line is dated or is not: the readers' steps, followed to the end.
use Prim.Native.Nat.{ℕ, zero, suc, ◌+◌, ◌-◌, ◌*◌, ◌≤◌}
use mathlib.Core.Path.{◌≡◌}
use mathlib.Core.List.{List}
use native.Mathlib.Omega.{arith}
use lib.ListN.{length, get_or, take, drop}
use Rattle.ground.proofs.Cases.{below_or, same_or}
use Rattle.std.specs.Prelude.{Option, Some, None}
use Rattle.dates.specs.declared.date.Date.{Date}
use Rattle.dates.specs.Texts.{Writes, Numbered, DatingOf}
use Rattle.dates.proofs.Numbers.{writes_none, writes_more, number_read, number_other}
use Rattle.dates.proofs.Dated.{dating_short, dating_dash, dating_dash_2, dating_space, dating_year, dating_month, dating_day, dating_on}

number_from : (part : List ℕ) (k i n : ℕ) → i + k ≡ length part → Writes i (take i part) n → (r : Option ℕ) × Numbered part r
number_from part zero i n h w = (Some n, number_read part i n (omega arith) (omega arith) w)
number_from part (suc k) i n h w =
    let x = get_or part i 0 in
    below_or x 48 (λ l. (None, number_other part i (omega arith) (λ b. omega (arith, b.0)))) (λ l.
    below_or 57 x (λ j. (None, number_other part i (omega arith) (λ b. omega (arith, b.1)))) (λ j.
    number_from part k (i + 1) (n * 10 + (x - 48)) (omega arith) (writes_more part i n (x - 48) w (omega arith) (omega arith) (omega arith))))

pub number_decided : (part : List ℕ) → (r : Option ℕ) × Numbered part r
number_decided part = number_from part (length part) 0 0 (omega arith) (writes_none part)

pub dating_decided : (line : List ℕ) → (r : Option Date) × DatingOf line r
dating_decided line =
    below_or (length line) 11 (λ l. (None, dating_short line l)) (λ l.
    same_or (get_or line 4 0) 45
    (λ p. same_or (get_or line 7 0) 45
    (λ q. same_or (get_or line 10 0) 32
    (λ r. go l p q r (number_decided (take 4 line)) (number_decided (take 2 (drop 5 line))) (number_decided (take 2 (drop 8 line))))
    (λ n. (None, dating_space line n)))
    (λ n. (None, dating_dash_2 line n)))
    (λ n. (None, dating_dash line n)))
  where
    go : 11 ≤ length line → get_or line 4 0 ≡ 45 → get_or line 7 0 ≡ 45 → get_or line 10 0 ≡ 32 → (y : Option ℕ) × Numbered (take 4 line) y
        → (m : Option ℕ) × Numbered (take 2 (drop 5 line)) m → (d : Option ℕ) × Numbered (take 2 (drop 8 line)) d → (r : Option Date) × DatingOf line r
    go l p q r (None, y) m d = (None, dating_year line y)
    go l p q r (Some a, y) (None, m) d = (None, dating_month line m)
    go l p q r (Some a, y) (Some b, m) (None, d) = (None, dating_day line d)
    go l p q r (Some a, y) (Some b, m) (Some c, d) =
        let e : Date = record { year = a; month = b; day = c } in (Some e, dating_on line e l p q r y m d)
