use Rattle.std.proofs.Common.{◌++◌, ◌∷◌, [], sym, ap, ◌∙◌}
use Rattle.std.specs.Prelude.{codes}
use Rattle.std.specs.Fmt.{decimal}
use Rattle.rev_fields.specs.Fields.{line_of, spaced}
use Rattle.rev_observed.specs.Texts.{ended}
use Rattle.rev_observed_text.proofs.TextLemmas.{line-one, number-field}
use Rattle.rev_observed_text.proofs.lines.push_count.Goals as goal

pub returns : goal.returns
returns c =
    let old = c.args.text.now.items in
    let n = c.args.count in
    c.in_ok-push.ensures.items ∙ ap (λ l. l ++ 10 ∷ []) (c.in_ok-next_number.ensures ∙ ap (λ l. l ++ spaced (decimal n)) c.in_ok-extend_from_slice.ensures.items) ∙ line-one old (codes "outside") (decimal n)
    ∙ ap (λ f. old ++ ended (line_of (codes "outside" ∷ f ∷ []))) (sym (number-field n c.ranges.count.fits))
