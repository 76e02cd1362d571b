use Rattle.std.proofs.Common.{[], ◌∷◌, ◌++◌, sym, ◌∙◌}
use Rattle.std.specs.Prelude.{if◌then◌else◌}
use Rattle.rev_queries.specs.Edges.{has_output_of}
use Rattle.rev_queries.proofs.ListLemmas.{filtered-next}
use Rattle.rev_queries.proofs.edges.users.Goals as goal

pub loop-other-preserved : goal.loop-other-preserved
loop-other-preserved c =
    c.in_ok-add_where.ensures
    ∙ (λ j. c.loop-other.invariant j ++ (if c.has_output_of-passes.ensures j then c.loop-other.other ∷ [] else []))
    ∙ sym (filtered-next (has_output_of c.args.graph.now.manifest.builds c.args.edge) c.loop-other.other)
