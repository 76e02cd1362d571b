use Rattle.std.proofs.Common.{sym, ap, ◌∙◌}
use Rattle.rev_syntax.specs.Lines.{without_last}
use Rattle.rev_syntax.proofs.LineLemmas.{without_last-push}
use Rattle.rev_syntax.proofs.lines.without_last.Goals as goal

pub returns-in-Some : goal.returns-in-Some
returns-in-Some c = sym (ap without_last c.in-Some.ensures.cases.0 ∙ without_last-push c.in-Some.front.now c.in-Some.field-0-0.now)
