-- Each return says what its tests showed.
use Rattle.std.proofs.Common.{◌≡◌, ℕ, arith}
use Rattle.ground.proofs.Cases.{digit}
use Rattle.print.specs.Texts.{sign}
use Rattle.pla_lines.specs.Parts.{is, none}
use Rattle.pla_lines.proofs.sayings.digit.Goals as goal

pub returns-in-48 : goal.returns-in-48
returns-in-48 c = is (omega arith) (omega arith)

pub returns-in-49 : goal.returns-in-49
returns-in-49 c = is (omega arith) (omega arith)

pub returns-in-45 : goal.returns-in-45
returns-in-45 c = is (omega arith) (omega arith)

pub returns-in_default : goal.returns-in_default
returns-in_default c =
    none (λ e h. digit (λ (x : ℕ). c.args.c ≡ sign x → ⊥) e h (omega arith) (omega arith) (omega arith))
