use Rattle.std.proofs.Common.{ap, ◌∙◌}
use Rattle.rev_certainty.specs.Judged.{untaken}
use Rattle.rev_certainty.proofs.judging.judge.Goals as goal

pub returns-clause-obstacles : goal.returns-clause-obstacles
returns-clause-obstacles c = c.in_ok-split.ensures ∙ ap (untaken c.args.places.now c.args.trust.now.lines.items) c.deref.ensures.value

pub returns-clause-certainty : goal.returns-clause-certainty
returns-clause-certainty c =
    c.certainty_of-word.ensures c.args.places.now c.args.trust.now.lines.items
    (c.deref-2.ensures.value ∙ c.in_ok-split.ensures ∙ ap (untaken c.args.places.now c.args.trust.now.lines.items) c.deref.ensures.value)
