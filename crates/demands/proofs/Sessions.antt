-- No two returns of `feed` and of `finish`, of the programs that there are: what sessions `Sessions` says of every program whose lines have one answer each.
use Prim.Native.Nat.{ℕ}
use mathlib.Core.Path.{◌≡◌}
use mathlib.Core.List.{List}
use Rattle.machine.specs.Pieces.{Position, FinishedBy}
use Rattle.sessions.specs.Sessions.{FedTo}
use Rattle.sessions.specs.declared.Session.{Session}
use Rattle.sessions.specs.declared.Fed.{Fed}
use Rattle.sessions.proofs.Sessions.{feed_settled, finish_settled}
use Rattle.desk.specs.Prints.{holdings}
use Rattle.desk.specs.States.{kind as desk_kind}
use Rattle.desk.specs.declared.stages.Desk.{Desk}
use Rattle.desk.proofs.Outputs.{one_answer as desk_one}
use Rattle.year.specs.Prints.{months}
use Rattle.year.specs.States.{kind as year_kind}
use Rattle.year.specs.declared.stages.Year.{Year}
use Rattle.year.proofs.Outputs.{one_answer as year_one}

module _ {p : Position holdings} {out o₁ o₂ : List ℕ} where
  pub holdings_fed : {piece : List ℕ} {s t : Session Desk} {r q : Fed} → FedTo desk_kind p piece out s r o₁ → FedTo desk_kind p piece out t q o₂ → (s ≡ t) × (r ≡ q) × (o₁ ≡ o₂)
  holdings_fed = feed_settled desk_kind desk_one

  pub holdings_finished : {r q : ℕ} → FinishedBy holdings p out r o₁ → FinishedBy holdings p out q o₂ → (r ≡ q) × (o₁ ≡ o₂)
  holdings_finished = finish_settled desk_kind desk_one

module _ {p : Position months} {out o₁ o₂ : List ℕ} where
  pub months_fed : {piece : List ℕ} {s t : Session Year} {r q : Fed} → FedTo year_kind p piece out s r o₁ → FedTo year_kind p piece out t q o₂ → (s ≡ t) × (r ≡ q) × (o₁ ≡ o₂)
  months_fed = feed_settled year_kind year_one

  pub months_finished : {r q : ℕ} → FinishedBy months p out r o₁ → FinishedBy months p out q o₂ → (r ≡ q) × (o₁ ≡ o₂)
  months_finished = finish_settled year_kind year_one
