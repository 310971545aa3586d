-- Numbers written in so many figures. 48 is `0`.
use Rattle.std.specs.Prelude.{ℕ, zero, suc, ◌+◌, ◌/◌, ◌%◌, List, [], ◌∷◌, ◌++◌}

-- the last k figures of a number in a base, with zeros in front where it has fewer
unfoldable pub figures : (base k n : ℕ) → List ℕ
figures base zero n = []
figures base (suc k) n = figures base k (n / base) ++ (48 + n % base) ∷ []
