-- The texts of the result: how long they are, and the lines one more at a time.
use Prim.Native.Nat.{ℕ, zero, suc, ◌+◌, ◌^◌, ◌≤◌, ◌<◌}
use mathlib.Core.Path.{◌≡◌, refl, sym, ap, ◌∙◌}
use mathlib.Core.List.{List, [], ◌∷◌, ◌++◌, append_assoc, append-nil}
use native.Mathlib.Numerals.{add-one}
use native.Mathlib.Omega.{arith}
use lib.ListN.{length, get_or, take, length-append}
use lib.Seq.{take-suc}
use Rattle.lists.specs.Lists.{Boxes}
use Rattle.ground.specs.Texts.{ascii}
use Rattle.sheet.specs.Limits.{most_marks}
use Rattle.print.specs.Texts.{decimal, clock, pattern}
use Rattle.print.specs.Pages.{Puts}
use Rattle.print.specs.declared.page.Page.{Page}
use Rattle.print.proofs.Pages.{puts_then, puts_text}
use Rattle.print.proofs.Digits.{number_room, time_room, pattern-length}
use Rattle.desk.specs.Prints.{heads, box_line, box_lines, last_line}

-- lengths

pub heads-length : (x y : ℕ) → x < 2 ^ 64 → y < 2 ^ 64 → length (heads x y) ≤ 54
unfolding heads
heads-length x y h l =
    omega (
      arith,
      number_room x h,
      number_room y l,
      length-append (decimal x) (ascii "\nlines "),
      length-append (decimal x ++ ascii "\nlines ") (decimal y),
      length-append (decimal x ++ ascii "\nlines " ++ decimal y) (10 ∷ []),
    )

pub line_length : (m b s : ℕ) → m ≤ most_marks → s < 2 ^ 64 → length (box_line m b s) ≤ 28
unfolding box_line
line_length m b s h l =
    omega (
      arith,
      pattern-length m b,
      time_room s l,
      length-append (pattern m b) (ascii " "),
      length-append (pattern m b ++ ascii " ") (clock s),
      length-append (pattern m b ++ ascii " " ++ clock s) (10 ∷ []),
    )

pub last_length : (s : ℕ) → s < 2 ^ 64 → length (last_line s) ≤ 28
unfolding last_line
last_length s l = omega (arith, time_room s l, length-append (clock s) (10 ∷ []))

-- the lines, one more at a time

lines_append : (m : ℕ) (f : ℕ → ℕ) (a b : List ℕ) → box_lines m f (a ++ b) ≡ box_lines m f a ++ box_lines m f b
unfolding box_lines
lines_append m f [] b = refl
lines_append m f (x ∷ a) b =
    ap (λ (t : List ℕ). box_line m x (f x) ++ t) (lines_append m f a b) ∙ sym (append_assoc (box_line m x (f x)) (box_lines m f a) (box_lines m f b))

pub lines_more : (m : ℕ) (f : ℕ → ℕ) (l : List ℕ) (i : ℕ) → i < length l
    → box_lines m f (take (i + 1) l) ≡ box_lines m f (take i l) ++ box_line m (get_or l i 0) (f (get_or l i 0))
unfolding box_lines
lines_more m f l i h =
    rw (add-one i, take-suc l i 0 h) (lines_append m f (take i l) (get_or l i 0 ∷ [])
    ∙ ap (λ (t : List ℕ). box_lines m f (take i l) ++ t) (append-nil (box_line m (get_or l i 0) (f (get_or l i 0)))))

-- what is printed of a line is what its box has
pub lines_same : (m : ℕ) (f g : ℕ → ℕ) (l : List ℕ) → Boxes m l → ((b : ℕ) → b < 3 ^ m → f b ≡ g b) → box_lines m f l ≡ box_lines m g l
unfolding box_lines Boxes
lines_same m f g [] h e = refl
lines_same m f g (b ∷ l) h e =
    ap (λ (s : ℕ). box_line m b s ++ box_lines m f l) (e b h.0) ∙ ap (λ (t : List ℕ). box_line m b (g b) ++ t) (lines_same m f g l h.1 e)

pub boxes_below : (m : ℕ) (l : List ℕ) → Boxes m l → (k : ℕ) → k < length l → get_or l k 0 < 3 ^ m
unfolding Boxes
boxes_below m [] h k q = absurd (omega arith)
boxes_below m (b ∷ l) h zero q = h.0
boxes_below m (b ∷ l) h (suc k) q = boxes_below m l h.1 k (omega arith)

-- one line more on a page
pub line_put : (m : ℕ) (f : ℕ → ℕ) (l : List ℕ) (i : ℕ) {p q s : Page} {b x : ℕ} → i < length l → b ≡ get_or l i 0 → x ≡ f b → Puts p q (box_lines m f (take i l))
    → Puts q s (box_line m b x) → Puts p s (box_lines m f (take (i + 1) l))
line_put m f l i {b = b} {x = x} h e d p q =
    puts_text (sym (lines_more m f l i h))
    (puts_then p (puts_text (ap (box_line m b) (d ∙ ap f e) ∙ ap (λ (c : ℕ). box_line m c (f (get_or l i 0))) e) q))
