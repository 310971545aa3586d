-- Where a cursor stands in a form, and what a field that is read tells.
use Rattle.std.specs.Prelude.{ℕ, ◌-◌, ◌^◌, ◌≤◌, ◌<◌, ◌≡◌, length, take, drop, Result, MatchResult}
use Rattle.refusals.specs.declared.Refusal.{Refusal}
use Rattle.refusals.specs.declared.Refusal.TheVariants.{Unreadable}
use Rattle.stored.specs.Fields.{number_in}
use Rattle.sections.specs.declared.fields.Fields.{Fields}

-- the offset where the next field stands
abbrev pub offset_of : Fields → ℕ
offset_of f = f.size - length f.rest.now

-- the number in the next k bytes
abbrev pub number_at : Fields → ℕ → ℕ
number_at f k = number_in (take k f.rest.now)

-- the cursor g stands in the form of f, where f does or behind it
pub record Behind (f g : Fields) : Type 0 where
  pub size : g.size ≡ f.size
  pub passed : ℕ
  pub rest : g.rest.now ≡ drop passed f.rest.now

-- a field of k bytes whose number n is `low` to `high`, and the cursor g behind it
pub record Fits (f : Fields) (k low high : ℕ) (g : Fields) (n : ℕ) : Type 0 where
  pub inside : k ≤ length f.rest.now
  pub number : n ≡ number_at f k
  pub small : n < 256 ^ k
  pub least : low ≤ n
  pub most : n ≤ high
  pub size : g.size ≡ f.size
  pub rest : g.rest.now ≡ drop k f.rest.now

-- one that is not complete, told at the end, or whose number is beyond the limits, told where it stands
pub data Faulty (f : Fields) (k low high : ℕ) : Refusal → Type 0 where
  early : length f.rest.now < k → Faulty f k low high (Unreadable f.size)
  wrong : k ≤ length f.rest.now → number_at f k < 256 ^ k → (low ≤ number_at f k → number_at f k ≤ high → ⊥) → Faulty f k low high (Unreadable (offset_of f))

-- a field of k bytes, whose number is to be `low` to `high`
abbrev pub FieldRead : Fields → ℕ → ℕ → ℕ → Fields → Result ℕ Refusal → Type 0
FieldRead f k low high g result = MatchResult result (λ n. Fits f k low high g n) (λ e. Faulty f k low high e)
