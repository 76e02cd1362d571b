use Rattle.std.proofs.Common.{◌++◌, sym, ◌∙◌}
use Rattle.std.specs.Option.{option_map, option_to_list}
use Rattle.rev_history.specs.Timeline.{state_at}
use Rattle.rev_looked.specs.Naming.{naming_at, naming_of}
use Rattle.rev_looked.proofs.NeedLemmas.{mapped-next}
use Rattle.rev_looked.proofs.naming.namings.Goals as goal

pub loop-edge-preserved : goal.loop-edge-preserved
loop-edge-preserved c =
    c.in_ok-add.ensures
    ∙ (λ j. c.loop-edge.invariant j ++ option_to_list (option_map (naming_of c.loop-edge.edge) (c.site_of-site.ensures j)))
    ∙ sym (mapped-next (naming_at c.args.history.now.timeline.manifest.builds (state_at c.args.history.now.timeline) c.args.path.now) c.loop-edge.edge)
