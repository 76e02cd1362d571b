use Rattle.std.proofs.Common.{◌≡◌, Bool, ap, subst, ◌∙◌}
use Rattle.std.specs.Prelude.{is_some}
use Rattle.rev_certainty.specs.Certain.{is_certain}
use Rattle.rev_certainty.specs.Races.{left}
use Rattle.rev_certainty.specs.declared.certainty.Beside.{Beside}
use Rattle.rev_verdicts.specs.Asked.{SaysExactly, beside, beside_by, has_baseline}
use Rattle.rev_verdicts.proofs.WrittenLemmas.{some-if}
use Rattle.rev_verdicts.proofs.certifying.known_written.Goals as goal

pub returns : goal.returns
returns c =
    let found = c.args.found.now in
    let wish = c.args.wish in
    let decided = λ (b : Beside). is_certain b wish.is_strict c.args.places.now wish.trust.now.lines.items c.args.certificate.now in
    let known : c.beside_of-beside.result ≡ beside c.args.found.now c.args.wish.filters.now =
    c.beside_of-beside.ensures ∙ ap (beside_by found) (c.deref-2.ensures.value ∙ c.in_ok-races.ensures ∙ ap (left wish.filters.now) c.deref.ensures.value) in
    subst (λ (certain : Bool). SaysExactly certain wish.form (has_baseline wish.choice) c.in_ok-written.written)
    (ap is_some c.in_ok-judged.ensures.certainty ∙ some-if (decided c.beside_of-beside.result) c.beside_of-beside.result.commands ∙ ap decided known)
    c.in_ok-written.ensures
