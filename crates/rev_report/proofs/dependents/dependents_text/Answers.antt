use Rattle.std.proofs.Common.{◌≡◌, ℕ, IfOk, Option, subst}
use Rattle.rev_events.specs.declared.refusal.Refusal.{Refusal}
use Rattle.rev_script.specs.Lines.{refused_line}
use Rattle.rev_report.specs.Report.{dependents_unless}
use Rattle.rev_report.proofs.dependents.dependents_text.Goals as goal

pub returns-in-Some : goal.returns-in-Some
returns-in-Some c =
    let P : Option Refusal → Type 0 = λ r. IfOk c.refused_line.result (λ text. text.items ≡ dependents_unless r c.args.history.now.timeline c.args.number) in
    let Q : ℕ → Type 0 = λ code. IfOk c.refused_line.result (λ text. text.items ≡ refused_line code) in
    subst P c.in-Some.ensures (subst Q c.code.ensures c.refused_line.ensures)

pub returns-in-None : goal.returns-in-None
returns-in-None c =
    let P : Option Refusal → Type 0 = λ r. IfOk c.answered.result (λ text. text.items ≡ dependents_unless r c.args.history.now.timeline c.args.number) in
    subst P c.in-None.ensures c.answered.ensures
