use Rattle.std.proofs.Common.{◌<◌, ◌≤◌, None, length, arith}
use Rattle.rev_named.specs.Named.{known_in, noted, paths_of}
use Rattle.rev_named.proofs.NamedLemmas.{edges-last, edges-more}
use Rattle.rev_named.proofs.components.last_components.Goals as goal

pub loop-edge-preserved : goal.loop-edge-preserved
loop-edge-preserved c = λ last.
    let builds = c.args.graph.now.manifest.builds in
    let within : c.loop-edge.edge < length c.args.graph.now.manifest.builds = omega (arith, c.loop-edge-test.true, c.edges-edge-end.ensures.edges) in
    edges-more builds last c.loop-edge.edge (known_in c.loop-edge.components last) (known_in c.add_edge.new.self last) (noted builds last None (paths_of builds)) within (c.in_ok-add_edge.ensures last) (c.loop-edge.invariant last)

pub returns : goal.returns
returns c =
    let builds = c.args.graph.now.manifest.builds in
    let past : length c.args.graph.now.manifest.builds ≤ c.loop-edge.edge = omega (arith, c.loop-edge-test.false, c.edges-edge-end.ensures.edges) in
    record { each = λ last. edges-last builds last c.loop-edge.edge (known_in c.loop-edge.components last) (noted builds last None (paths_of builds)) past (c.loop-edge.invariant last) }
