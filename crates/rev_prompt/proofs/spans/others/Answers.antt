use Rattle.std.proofs.Common.{[], ◌∷◌, ◌++◌, ◌∙◌}
use Rattle.std.specs.Prelude.{if◌then◌else◌}
use Rattle.rev_prompt.specs.Spans.{is_beside, span_of}
use Rattle.rev_prompt.proofs.LastLemmas.{passing-at}
use Rattle.rev_prompt.proofs.spans.others.Goals as goal

pub loop-run-preserved : goal.loop-run-preserved
loop-run-preserved c =
    passing-at (is_beside c.args.span) span_of c.args.runs.now c.loop-run.run-index _
    c.loop-run.spans.items c.add_where.new.spans.items c.loop-run-test.true c.loop-run.invariant
    (c.in_ok-add_where.ensures
    ∙ (λ j. c.loop-run.spans.items ++ (if c.is_beside.ensures j then c.span_of.ensures j ∷ [] else [])))
