use Rattle.std.proofs.Common.{sym, ap, ◌∙◌, eq-eqb}
use Rattle.std.proofs.lemmas.Bool.{ne_eqb}
use Rattle.rev_syntax.specs.Lines.{without_return}
use Rattle.rev_syntax.proofs.LineLemmas.{without_return-return, without_return-other}
use Rattle.rev_syntax.proofs.lines.without_return.Goals as goal

pub returns-then-last-eq13 : goal.returns-then-last-eq13
returns-then-last-eq13 c =
    sym (ap without_return c.in-Some.ensures.cases.0 ∙ without_return-return c.in-Some.front.now c.in-Some.last.now (eq-eqb c.in-Some.last.now 13 c.if-last-eq13.true))

pub returns-else-last-eq13 : goal.returns-else-last-eq13
returns-else-last-eq13 c =
    sym (ap without_return c.in-Some.ensures.cases.0 ∙ without_return-other c.in-Some.front.now c.in-Some.last.now (ne_eqb c.in-Some.last.now 13 c.if-last-eq13.false) ∙ sym c.in-Some.ensures.cases.0)
