use Rattle.std.proofs.Common.{◌++◌, sym, ap, ◌∙◌}
use Rattle.std.specs.Option.{option_to_list}
use Rattle.rev_history.specs.Timeline.{state_at}
use Rattle.rev_queries.specs.Readings.{reading_at}
use Rattle.rev_queries.proofs.ListLemmas.{mapped-next}
use Rattle.rev_queries.proofs.reading.readings.Goals as goal

pub loop-edge-preserved : goal.loop-edge-preserved
loop-edge-preserved c =
    c.in_ok-add.ensures
    ∙ (λ j. c.loop-edge.invariant j ++ option_to_list (c.reading_at-reading.ensures j))
    ∙ sym (mapped-next (reading_at c.args.history.now.timeline.manifest.builds (state_at c.args.history.now.timeline) c.args.names.now) c.loop-edge.edge)
