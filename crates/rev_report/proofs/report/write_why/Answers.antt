use Rattle.rev_script.proofs.OutputLemmas.{nothing-sent, writes-err}
use Rattle.rev_report.proofs.report.write_why.Goals as goal

pub returns-in_err-text-in-Some : goal.returns-in_err-text-in-Some
returns-in_err-text-in-Some g c = writes-err _ _ _ _ _ c.from_residual-in_err-text-in-Some.ensures.1 (nothing-sent _ _)
