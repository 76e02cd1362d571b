use Rattle.std.proofs.Common.{◌++◌, ◌∷◌, [], if◌then◌else◌, eq-eqb, ap, ◌∙◌, sym}
use Rattle.std.proofs.lemmas.Bool.{ne_eqb}
use Rattle.rev_observed.specs.Says.{without_end}
use Rattle.rev_observed.proofs.SaysLemmas.{without_end-last}
use Rattle.rev_observed.proofs.reading.without_end.Goals as goal

pub returns-then-last-eq10 : goal.returns-then-last-eq10
returns-then-last-eq10 c =
    let last = c.in-Some.last.now in
    let before = c.in-Some.before.now in
    sym (ap without_end c.in-Some.ensures.cases.0 ∙ without_end-last before last ∙ ap (λ b. if b then before else before ++ last ∷ []) (eq-eqb last 10 c.if-last-eq10.true))

pub returns : goal.returns
returns c =
    let last = c.in-Some.last.now in
    let before = c.in-Some.before.now in
    c.in-Some.ensures.cases.0
    ∙ sym (ap without_end c.in-Some.ensures.cases.0 ∙ without_end-last before last ∙ ap (λ b. if b then before else before ++ last ∷ []) (ne_eqb last 10 c.if-last-eq10.false))
