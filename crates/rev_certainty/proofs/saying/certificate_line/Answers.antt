use Rattle.std.proofs.Common.{◌++◌, ◌∷◌, [], ℕ, List, ap, ◌∙◌}
use Rattle.std.specs.Prelude.{is_some}
use Rattle.rev_certainty.specs.Sayings.{object_says_certain}
use Rattle.rev_certainty.proofs.SayingLemmas.{object-says}
use Rattle.rev_certainty.proofs.saying.certificate_line.Goals as goal

pub returns : goal.returns
returns c = λ more.
    ap (λ (text : List ℕ). object_says_certain (text ++ more))
    (c.in_ok-push.ensures.items
    ∙ ap (λ (text : List ℕ). text ++ 10 ∷ [])
    (c.in_ok-extend_from_slice.ensures.items ∙ ap (λ (text : List ℕ). text ++ c.args.members.now) (c.in_ok-text.ensures.items ∙ c.head_of.ensures)))
    ∙ object-says (is_some c.args.certainty) c.args.members.now (10 ∷ []) more
