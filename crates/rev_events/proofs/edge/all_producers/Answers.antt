use Rattle.std.proofs.Common.{◌∙◌, ◌++◌, map, ap}
use Rattle.rev_graph.specs.Graph.{build_at, producer_of}
use Rattle.rev_events.proofs.EdgeLemmas.{producers-are}
use Rattle.rev_events.proofs.edge.all_producers.Goals as goal

pub returns : goal.returns
returns c =
    let builds = c.args.graph.now.manifest.builds in
    c.in_ok-extend_from_slice.ensures.items
    ∙ (λ k. (c.in_ok-all.ensures.items ∙ c.producers.ensures) k ++ (c.deref.ensures.value ∙ c.in_ok-listed.ensures ∙ ap (map (producer_of builds)) c.listed_inputs.ensures) k)
    ∙ producers-are builds c.args.cells.now.state (build_at builds c.args.edge)
