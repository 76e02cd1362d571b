use Rattle.std.proofs.Common.{◌≡◌, Bool, ◌&&◌, List, if◌then◌else◌, ap, ◌∙◌}
use Rattle.rev_certificate.specs.declared.assumption.Assumption.{Assumption}
use Rattle.rev_certainty.specs.Certain.{certainty_if, is_empty}
use Rattle.rev_certainty.specs.Judged.{grants, in_the_way}
use Rattle.rev_certainty.proofs.certainty.certainty_of.Goals as goal

pub returns : goal.returns
returns c = λ o lines left.
    let strict = c.args.is_strict in
    let free : c.is_free-free.result ≡ is_empty (in_the_way c.args.is_strict o lines c.args.certificate.now.obstacles.items) =
    c.is_free-free.ensures ∙ (λ i. is_empty (if strict then c.deref.ensures.value i else left i)) in
    let granted : c.grants-granted.result ≡ grants c.args.is_strict c.args.certificate.now.assumptions.items =
    c.grants-granted.ensures ∙ ap (λ (all : List Assumption). grants strict all) c.deref-2.ensures.value in
    c.certainty_where.ensures
    ∙ ap (λ (certain : Bool). certainty_if certain c.args.beside.now.commands)
    (c.all_of-certain.ensures ∙ (λ i. c.is_clear-clear.ensures i && (free i && granted i)))
