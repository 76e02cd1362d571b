use Rattle.std.proofs.Common.{subst}
use Rattle.rev_graph.specs.Graph.{build_at}
use Rattle.rev_witness.specs.Sources.{AddsSources}
use Rattle.rev_witness.proofs.WitnessLemmas.{adds_three}
use Rattle.rev_witness.proofs.opening.add_inputs.Goals as goal

pub returns-clause-adds : goal.returns-clause-adds
returns-clause-adds c =
    let builds = c.args.graph.now.manifest.builds in
    let first = c.add_sources.new.sources.paths.items in
    let second = c.add_sources-2.new.sources.paths.items in
    let third = c.add_sources-3.new.sources.paths.items in
    adds_three builds (build_at builds c.args.edge) c.args.sources.now.paths.items first second third
    (subst (λ xs. AddsSources builds xs c.args.sources.now.paths.items first) c.inputs-inputs.ensures.explicit c.in_ok-add_sources.ensures.adds)
    (subst (λ xs. AddsSources builds xs first second) c.inputs-inputs.ensures.implicit c.in_ok-add_sources-2.ensures.adds)
    (subst (λ xs. AddsSources builds xs second third) c.inputs-inputs.ensures.order_only c.in_ok-add_sources-3.ensures.adds)
