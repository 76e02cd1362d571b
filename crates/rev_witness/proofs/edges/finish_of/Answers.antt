use Rattle.std.proofs.Common.{◌≡◌, ◌+◌, length, map, ◌∙◌}
use Rattle.rev_events.specs.declared.event.Event.TheVariants.{Finish}
use Rattle.rev_events.specs.declared.event.Listing.TheVariants.{Nothing}
use Rattle.rev_graph.specs.Graph.{build_at, outputs_of}
use Rattle.rev_witness.specs.Progress.{first_out}
use Rattle.rev_witness.proofs.EdgeLemmas.{ones_are}
use Rattle.rev_witness.proofs.edges.finish_of.Goals as goal

pub returns : goal.returns
returns c =
    let build = build_at c.args.graph.now.manifest.builds c.args.edge in
    let out : c.in_ok-copy.field-0 ≡ first_out c.args.graph.now.manifest c.args.edge = c.in_ok-copy.ensures.equal ∙ c.first_output.ensures in
    let stamps : c.in_ok-given.given ≡ map (λ path. 1) (outputs_of (build_at c.args.graph.now.manifest.builds c.args.edge)) =
    c.in_ok-given.ensures ∙ c.in_ok-stamps.ensures.items_if_clones_equal (λ y same. same)
    ∙ ones_are build.explicit_outs build.implicit_outs _ (λ i. length (c.outputs-outputs.ensures.explicit i) + length (c.outputs-outputs.ensures.implicit i)) in
    λ i. Finish (out i) (stamps i) Nothing
