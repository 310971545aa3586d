-- A text that is laid in a lent area.
use Rattle.std.specs.Prelude.{ℕ, ◌+◌, ◌≤◌, ◌≡◌, List, ◌++◌, length, take, slice_index}
use Rattle.print.specs.declared.page.Page.{Page}

abbrev pub written : Page → List ℕ
written p = take p.len p.area.now

-- a text was laid behind what there was, no other byte changed, and the same area is still lent
pub record Puts (old new : Page) (text : List ℕ) : Type 0 where
  pub laid : written new ≡ written old ++ text
  pub len : new.len ≡ old.len + length text
  pub behind : (k : ℕ) → new.len ≤ k → slice_index new.area.now k ≡ slice_index old.area.now k
  pub long : length new.area.now ≡ length old.area.now
  pub same : new.area.ghost_name ≡ old.area.ghost_name

-- n bytes more have room
abbrev pub HasRoom : Page → ℕ → Type 0
HasRoom p n = p.len + n ≤ length p.area.now
