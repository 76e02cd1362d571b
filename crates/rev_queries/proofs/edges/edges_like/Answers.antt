use Rattle.std.proofs.Common.{[], ◌∷◌, ◌++◌, sym, ◌∙◌}
use Rattle.std.specs.Prelude.{if◌then◌else◌}
use Rattle.rev_queries.specs.Edges.{has_match}
use Rattle.rev_queries.proofs.ListLemmas.{filtered-next}
use Rattle.rev_queries.proofs.edges.edges_like.Goals as goal

pub loop-edge-preserved : goal.loop-edge-preserved
loop-edge-preserved c =
    c.in_ok-add_where.ensures
    ∙ (λ j. c.loop-edge.invariant j ++ (if c.in_ok-passes.ensures j then c.loop-edge.edge ∷ [] else []))
    ∙ sym (filtered-next (has_match c.args.graph.now.manifest.builds c.args.pattern.now) c.loop-edge.edge)
