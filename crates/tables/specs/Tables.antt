-- A table keeps a number for each box over m marks; it is a list, at least 3^m long. Entries at 3^m and above are no box's.
use Rattle.std.specs.Prelude.{ℕ, zero, suc, ◌+◌, ◌-◌, ◌^◌, ◌<◌, ◌≡◌, Bool, true, false, not, cond, ◌&&◌, ◌||◌, List, [], ◌∷◌, leb, length, get_or}
use Rattle.ground.specs.Every.{every}
use Rattle.boxes.specs.Boxes.{contains, sum_in, single}
use Rattle.tables.specs.declared.Shift.{Shift}
use Rattle.tables.specs.declared.Shift.TheVariants.{Stays, Up, Down}

-- what the table keeps of the box b
abbrev pub entry : List ℕ → ℕ → ℕ
entry t b = get_or t b 0

-- what it keeps of the combination c, in the box that contains c alone
abbrev pub own : ℕ → List ℕ → ℕ → ℕ
own m t c = entry t (single m c)

-- the table of n entries f 0, .., f (n - 1)
unfoldable pub tab : ℕ → (ℕ → ℕ) → List ℕ
tab zero f = []
tab (suc n) f = f 0 ∷ tab n (λ k. f (suc k))

-- the table worked out afresh from what each combination has: sums over boxes, and 0 at 3^m and above
abbrev pub afresh : ℕ → ℕ → (ℕ → ℕ) → List ℕ
afresh n m f = tab n (λ b. sum_in m b f)

-- each entry of a box is the sum over the box's combinations
abbrev pub Sums : ℕ → (ℕ → ℕ) → Type 0
Sums m t = (b : ℕ) → b < 3 ^ m → t b ≡ sum_in m b (λ c. t (single m c))

-- a move shifts a number: it stays, or has d more, or d less
abbrev pub shifted : Shift → ℕ → ℕ
shifted Stays x = x
shifted (Up d) x = x + d
shifted (Down d) x = x - d

-- the table shifted in the boxes that contain c, and in no other
abbrev pub moved : ℕ → ℕ → Shift → List ℕ → List ℕ
moved m c s t = tab (length t) (λ b. cond (contains m b c) (shifted s (entry t b)) (entry t b))

-- y is x shifted, and nothing was cut off at 0
abbrev pub Shifts : Shift → ℕ → ℕ → Type 0
Shifts Stays x y = y ≡ x
Shifts (Up d) x y = y ≡ x + d
Shifts (Down d) x y = x ≡ y + d

-- u is the table t with exactly the boxes that contain c shifted, each of them, and no other entry
pub record Shifted (m c : ℕ) (s : Shift) (t u : List ℕ) : Type 0 where
  pub long : length u ≡ length t
  pub touched : (b : ℕ) → b < length t → contains m b c ≡ true → Shifts s (entry t b) (entry u b)
  pub others : (b : ℕ) → b < length t → contains m b c ≡ false → entry u b ≡ entry t b

-- p holds of each box that contains c: the touched entries
abbrev pub touched : ℕ → ℕ → (ℕ → Bool) → Bool
touched m c p = every (3 ^ m) (λ b. not (contains m b c) || p b)

-- x, shifted, is 0 to `most`
abbrev pub fits_shifted : Shift → ℕ → ℕ → Bool
fits_shifted Stays most x = leb x most
fits_shifted (Up d) most x = leb (x + d) most
fits_shifted (Down d) most x = leb d x && leb (x - d) most
