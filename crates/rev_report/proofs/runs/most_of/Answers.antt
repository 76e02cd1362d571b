use Rattle.std.proofs.Common.{◌∙◌, ap, sym}
use Rattle.rev_report.specs.Runs.{offered}
use Rattle.rev_report.proofs.RunLemmas.{front_of}
use Rattle.rev_report.proofs.runs.most_of.Goals as goal

pub returns-in-Some-clause-front : goal.returns-in-Some-clause-front
returns-in-Some-clause-front c = λ turns is. front_of turns _ _ _ is c.min.ensures ∙ ap (λ most. offered most turns) (sym c.in-Some.is)
