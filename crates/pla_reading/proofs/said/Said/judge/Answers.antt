-- Each kind of line has its own function, whose promise is that part of `Judged`.
use Rattle.std.proofs.Common.{arith, refl, sym, subst}
use Rattle.pla_lines.specs.declared.Heard.{Heard}
use Rattle.pla_reading.specs.Parts.{On, Ends, goes, ends, Judged}
use Rattle.pla_reading.proofs.said.Said.judge.Goals as goal

pub returns-in-End-clause-leads : goal.returns-in-End-clause-leads
returns-in-End-clause-leads c =
    let a = c.args in
    subst (λ (h : Heard). Judged a.self.now a.at h Ends) (sym c.in-End.is) (λ s kept. ends refl)

pub returns-in-Blank-clause-leads : goal.returns-in-Blank-clause-leads
returns-in-Blank-clause-leads c =
    let a = c.args in
    subst (λ (h : Heard). Judged a.self.now a.at h (On a.self.now)) (sym c.in-Blank.is) (λ s kept. goes (λ size. refl) (omega arith) kept)
