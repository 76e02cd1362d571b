use Rattle.rev_graph.specs.Graph.{build_at, outputs_of}
use Rattle.rev_witness.proofs.EdgeLemmas.{first_is, has_first}
use Rattle.rev_witness.proofs.edges.first_output.Goals as goal

pub unreachable-requires : goal.unreachable-requires
unreachable-requires c =
    has_first c.args.graph.now c.args.edge c.edges-edges.ensures.graph c.requires c.in-None.ensures

pub returns : goal.returns
returns c =
    first_is (outputs_of (build_at c.args.graph.now.manifest.builds c.args.edge)) c.in-Some.out.now c.in-Some.ensures
